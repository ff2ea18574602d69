-- Items, each judged after those before it.
use Rattle.std.specs.Prelude.{Bool, List, [], map}
use Rattle.tv_model.specs.Faults.Lines.{after_seen}

-- for each item whether it stands so to those before it
abbrev pub each_after : {A : Type 0} → (List A → A → Bool) → List A → List Bool
each_after p items = map (λ pair. p pair.0 pair.1) (after_seen [] items)
