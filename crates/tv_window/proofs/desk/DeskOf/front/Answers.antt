use Rattle.std.proofs.Common.{Some, sym, ap, ◌∙◌, option_map, slice_get}
use Rattle.std.specs.Option.{option_copied}
use Rattle.tv_window.specs.Damage.{windows_of}
use Rattle.tv_window.specs.Window.{head_of}
use Rattle.tv_window.proofs.DeskLemmas.{front-told}
use Rattle.tv_window.proofs.desk.DeskOf.front.Goals as goal

pub returns : goal.returns
returns g c = λ d stack is.
    ap (λ i. Some i) c.id.ensures
    ∙ (ap (λ first. option_map (λ w. (head_of w).id) (option_copied first)) (sym c.in_ok-front.was)
    ∙ (ap (option_map (λ w. (head_of w).id)) (c.first.ensures.value ∙ ap (λ ws. slice_get ws 0) c.deref.ensures.value)
    ∙ front-told g.V.View.meaning d stack (windows_of c.args.self.now) is.windows))

pub returns-in_err-front : goal.returns-in_err-front
returns-in_err-front g c = λ d stack is.
    c.from_residual.ensures
    ∙ (ap (λ first. option_map (λ w. (head_of w).id) (option_copied first)) (sym c.in_err-front.was)
    ∙ (ap (option_map (λ w. (head_of w).id)) (c.first.ensures.value ∙ ap (λ ws. slice_get ws 0) c.deref.ensures.value)
    ∙ front-told g.V.View.meaning d stack (windows_of c.args.self.now) is.windows))
