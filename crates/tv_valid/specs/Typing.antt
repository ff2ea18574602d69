-- What typing makes of a text, as a function that computes.
use Rattle.std.specs.Prelude.{ℕ, zero, suc, ◌++◌, List, [], ◌∷◌, length, insert, Option, Some, None, Bool}
use Rattle.std.specs.Prelude.{true, false, ◌&&◌, ◌==◌, ℤ, pos, int_lt}
use Rattle.tv_picture.specs.Pattern.{Pattern}
use Rattle.tv_picture.specs.Matching.{next_literal_of}
use Rattle.tv_valid.specs.declared.domain.Kind.{Kind}
use Rattle.tv_valid.specs.declared.domain.Kind.TheVariants.{Any, Filter, Range, Picture}
use Rattle.tv_valid.specs.declared.domain.Domain.{Domain}
use Rattle.tv_valid.specs.Domain.{other_case}
use Rattle.tv_valid.specs.Deciding.{viable}

-- the domain is a picture
abbrev pub is_picture_kind : Kind → Bool
is_picture_kind Any = false
is_picture_kind (Filter set) = false
is_picture_kind (Range least greatest) = false
is_picture_kind (Picture p) = true

-- the text with at most n of the literals that must follow it, as far as there is room
abbrev pub filled : ℕ → ℤ → Pattern → List ℕ → List ℕ
filled zero max p text = text
filled (suc n) max p text =
    elim (int_lt (pos (length text)) max) [
      | true ↦ elim (next_literal_of p text) [
        | None ↦ text
        | Some c ↦ filled n max p (text ++ c ∷ [])
      ]
      | false ↦ text
    ]

-- with `fill`, what is typed at the end of a picture's text is filled up
abbrev pub completed : ℤ → Kind → Bool → List ℕ → List ℕ
completed max Any fill text = text
completed max (Filter set) fill text = text
completed max (Range least greatest) fill text = text
completed max (Picture p) fill text = elim fill [ true ↦ filled 120 max p text | false ↦ text ]

-- the text after the character was typed as it is
abbrev pub typed_as : Domain → List ℕ → ℕ → ℕ → List ℕ
typed_as d text at c = completed d.max d.kind (d.fill && (at == length text)) (insert text at c)

-- the text after a character was typed before the one at the place, or none where it isn't taken; for a
-- picture a
-- letter is tried in its other case too
abbrev pub typed_of : Domain → List ℕ → ℕ → ℕ → Option (List ℕ)
typed_of d text at ch =
    elim (viable d (insert text at ch)) [
      | true ↦ Some (typed_as d text at ch)
      | false ↦ elim (is_picture_kind d.kind
          && viable d (insert text at (other_case ch))) [
            | true ↦ Some (typed_as d text at (other_case ch))
            | false ↦ None
          ]
    ]
