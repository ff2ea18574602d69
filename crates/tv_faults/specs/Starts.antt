-- What the domains and the starts of views have, judged together: F12 and F13.
use Rattle.std.specs.Prelude.{◌≡◌, List, map}
use Rattle.tv_model.specs.declared.node.Node.{Node}
use Rattle.tv_model.specs.declared.kind.Kind.{Kind}
use Rattle.tv_model.specs.declared.desc.Desc.{Desc}
use Rattle.tv_model.specs.Faults.Domains.{has_no_text, starts_badly}
use Rattle.tv_faults.specs.declared.bodies.Starts.{Starts}
use Rattle.tv_faults.specs.declared.starts.StartFaults.{StartFaults}

-- which of both a declaration has
abbrev pub start_faults : Kind → StartFaults
start_faults kind = record { empty_domain = has_no_text kind; bad_start = starts_badly kind }

-- the same of each view of a window or dialog
abbrev pub starts_of : List Node → List StartFaults
starts_of views = map (λ view. start_faults view.kind) views

-- the same of each window and of each dialog
pub record AreStartsIn (d : Desc) (starts : Starts) : Type 0 where
  pub windows : starts.in_windows ≡ map (λ window. starts_of window.views) d.windows
  pub dialogs : starts.in_dialogs ≡ map (λ dialog. starts_of dialog.views) d.dialogs
