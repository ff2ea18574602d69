-- The head of a window or dialog whose kind is known.
use Rattle.std.proofs.Common.{◌≡◌, IsTrue, refl, sym, subst}
use Rattle.tv_model.specs.declared.kind.Kind.{Kind}
use Rattle.tv_model.specs.declared.kind.Kind.TheVariants as kinds
use Rattle.tv_model.specs.declared.kind.WindowHead.{WindowHead}
use Rattle.tv_model.specs.declared.kind.DialogHead.{DialogHead}
use Rattle.tv_model.specs.Description.Nodes.{is_window, is_dialog}
use Rattle.tv_model.specs.Description.Heads.{window_head_of, dialog_head_of}

pub window_head_of-Window : (kind : Kind) (is : IsTrue (is_window kind)) (head : WindowHead) → kind ≡ kinds.Window head → window_head_of kind is ≡ head
window_head_of-Window kind is head e =
    let P : Kind → Type 0 = λ k. (own : IsTrue (is_window k)) → window_head_of k own ≡ head in
    subst P (sym e) (λ own. refl) is

pub dialog_head_of-Dialog : (kind : Kind) (is : IsTrue (is_dialog kind)) (head : DialogHead) → kind ≡ kinds.Dialog head → dialog_head_of kind is ≡ head
dialog_head_of-Dialog kind is head e =
    let P : Kind → Type 0 = λ k. (own : IsTrue (is_dialog k)) → dialog_head_of k own ≡ head in
    subst P (sym e) (λ own. refl) is
