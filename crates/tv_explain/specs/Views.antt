-- Why a view of a window or dialog has a fault.
use Rattle.std.specs.Prelude.{ℕ, List, find, Option, Some, None}
use Rattle.tv_model.specs.declared.node.Node.{Node}
use Rattle.tv_model.specs.declared.kind.Kind.{Kind}
use Rattle.tv_model.specs.declared.kind.Kind.TheVariants as kinds
use Rattle.tv_model.specs.declared.fault.FaultKind.{FaultKind}
use Rattle.tv_model.specs.declared.fault.FaultKind.TheVariants as faults
use Rattle.tv_model.specs.Description.Names.{meant, shares_name}
use Rattle.tv_model.specs.Description.Nodes.{is_default}
use Rattle.tv_model.specs.Description.Sharing.{is_shared_by}
use Rattle.tv_explain.specs.declared.why.Why.{Why}
use Rattle.tv_explain.specs.declared.why.Reason.TheVariants as reasons
use Rattle.tv_explain.specs.Whys.{because, from_line, itself}
use Rattle.tv_explain.specs.Inside.{Framed}
use Rattle.tv_explain.specs.Lines.{node_line}
use Rattle.tv_explain.specs.Boxes.{overlapped, owner_line}
use Rattle.tv_explain.specs.Letters.{letter_line}
use Rattle.tv_explain.specs.Inputs.{domain_reason, start_reason}
use Rattle.tv_explain.specs.Limits.{view_limit}

-- F6: what has the name that a label gives, which is no control
abbrev pub linked_line : List Node → Kind → Option ℕ
linked_line views (kinds.Label label) = node_line (meant views label.link)
linked_line views _ = None

-- a view of a window or dialog, those before it being these
abbrev pub view_why : FaultKind → Framed → List Node → Node → Why
view_why faults.NameTwice inside before node =
    from_line (node_line (find (shares_name node) before))
view_why faults.OutsideOwner inside before node = from_line (Some (owner_line inside.frame before node))
view_why faults.Overlap inside before node = from_line (node_line (overlapped before node))
view_why faults.LetterTwice inside before node =
    from_line (letter_line (is_shared_by inside.sharing inside.views) before node)
view_why faults.LabelLink inside before node = from_line (linked_line inside.views node.kind)
view_why faults.MissingEnd inside before node = because reasons.UndeclaredEnd (Some inside.frame.id.0)
view_why faults.SecondDefault inside before node = from_line (node_line (find is_default before))
view_why faults.EmptyDomain inside before node = because (domain_reason node.kind) None
view_why faults.BadStart inside before node = because (start_reason node.kind) None
view_why faults.OutsideLimits inside before node = because (view_limit before node) None
view_why _ inside before node = itself
