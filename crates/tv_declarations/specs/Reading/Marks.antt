-- Reading a text of which one letter may be marked.
use Rattle.std.specs.Prelude.{ℕ, List, [], ◌∷◌, ◌++◌, take, drop, not, ◌&&◌, Option, Some, None, position}
use Rattle.std.specs.Prelude.{◌+◌, ◌==◌, if◌then◌else◌}
use Rattle.std.specs.List.{list_any}
use Rattle.std.specs.Char.{is_ascii_alphanumeric}
use Rattle.tv_model.specs.declared.kind.MarkedText.{MarkedText}
use Rattle.tv_declarations.specs.Spelling.Terms.{is_tilde}

-- what follows a first `~`: the marked letter, and what stands after the second `~`
abbrev pub end_of_mark : List ℕ → Option (ℕ × List ℕ)
end_of_mark [] = None
end_of_mark (c ∷ []) = None
end_of_mark (c ∷ d ∷ after) =
    if d == 126 && (is_ascii_alphanumeric c && not (list_any is_tilde after)) then Some (c, after) else None

-- the text around a mark at this place
abbrev pub marked_at : ℕ → List ℕ → Option (ℕ × List ℕ) → Option MarkedText
marked_at place before None = None
marked_at place before (Some marked) =
    Some (record { text = before ++ (marked.0 ∷ marked.1); mark = Some place })

-- the text and its mark, by the place of the first `~`
abbrev pub marked_from : Option ℕ → List ℕ → Option MarkedText
marked_from None cs = Some (record { text = cs; mark = None })
marked_from (Some place) cs = marked_at place (take place cs) (end_of_mark (drop (place + 1) cs))

-- the text and its mark that the characters spell
abbrev pub marked_text_in : List ℕ → Option MarkedText
marked_text_in cs = marked_from (position is_tilde cs) cs
