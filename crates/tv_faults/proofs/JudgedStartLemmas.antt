-- What was judged of the starts of views, as an answer for each view.
use Rattle.std.proofs.Common.{◌≡◌, Bool, List, [], ◌∷◌, ◌++◌, map, refl, ap, ◌∙◌}
use Rattle.tv_model.specs.declared.node.Node.{Node}
use Rattle.tv_model.specs.Faults.Lines.{after_seen}
use Rattle.tv_model.specs.Faults.Each.{each_after}
use Rattle.tv_faults.specs.declared.starts.StartFaults.{StartFaults}
use Rattle.tv_faults.specs.Starts.{start_faults, starts_of}

of_each : (has : StartFaults → Bool) (seen views : List Node) → map has (starts_of views) ≡ map (λ pair. has (start_faults pair.1.kind)) (after_seen seen views)
of_each has seen [] = refl
of_each has seen (view ∷ views) = ap (λ list. has (start_faults view.kind) ∷ list) (of_each has (seen ++ view ∷ []) views)

pub judged_starts : (has : StartFaults → Bool) (starts : List StartFaults) (views : List Node) → starts ≡ starts_of views
    → map has starts ≡ each_after (λ before view. has (start_faults view.kind)) views
judged_starts has starts views is = ap (map has) is ∙ of_each has [] views
