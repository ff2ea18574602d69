-- Letters that some texts mark.
use Rattle.std.specs.Prelude.{ℕ, Bool, not, ◌&&◌, ◌||◌, List, []}
use Rattle.std.specs.List.{list_any}
use Rattle.tv_model.specs.declared.kind.MarkedText.{MarkedText}
use Rattle.tv_model.specs.declared.node.Node.{Node}
use Rattle.tv_model.specs.Faults.Lines.{after_seen}
use Rattle.tv_model.specs.Description.Marks.{marks, marks_any, shares_letter}
use Rattle.tv_model.specs.Description.Letters.{marked_of}

-- the letter is marked in one of the texts
abbrev pub is_marked_in : List MarkedText → ℕ → Bool
is_marked_in texts letter = list_any (marks letter) texts

-- the letter is marked in one of the views
abbrev pub is_marked_by : List Node → ℕ → Bool
is_marked_by views letter = list_any (λ view. is_marked_in (marked_of view.kind) letter) views

-- one of the texts marks a letter that passes the test, or that one before it marks, and that isn't shared
abbrev pub mark_again : (ℕ → Bool) → (ℕ → Bool) → List MarkedText → Bool
mark_again shared test texts =
    list_any (λ pair.
    not (marks_any shared pair.1) && (marks_any test pair.1 || list_any (shares_letter pair.1) pair.0))
    (after_seen [] texts)
