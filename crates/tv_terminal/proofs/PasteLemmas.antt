-- What is heard within a paste, and what always is.
use Rattle.std.proofs.Common.{ℕ, ◌≡◌, ◌∙◌, refl, sym, ap, subst, Bool, true, false, Option, Some, None}
use Rattle.std.specs.Prelude.{IfSome}
use Rattle.tv_terminal.specs.declared.action.Action.{Action}
use Rattle.tv_terminal.specs.Decoding.{HearsLeaving, Listening, given, heard, heard_while, is_pasted}
use Rattle.tv_terminal.proofs.HeardLemmas.{interrupt_heard, quit_heard}

abbrev IsPasted : Option Action → Type 0
IsPasted result = IfSome result (λ action. is_pasted action ≡ true)

kept_if : (action : Action) (test : Bool) → is_pasted action ≡ test → IsPasted (heard_while true (Some action))
kept_if action true is = rw is is
kept_if action false is = rw is tt

pasted_alone : (meant : Option Action) → IsPasted (heard_while true meant)
pasted_alone None = tt
pasted_alone (Some action) = kept_if action (is_pasted action) refl

-- characters alone, and Ctrl-\
pub only_pasted : (l : Listening) (b : ℕ) (result : Option Action) → result ≡ heard l b → l.is_pasting ≡ true → IfSome result (λ action. is_pasted action ≡ true)
only_pasted l b result is pasting =
    subst IsPasted (sym (is ∙ ap (λ test. heard_while test (given l.bytes b)) pasting)) (pasted_alone (given l.bytes b))

-- Ctrl-\ always, and Ctrl-C where nothing is pasted
pub leaving_heard : (l : Listening) (b : ℕ) (result : Option Action) → result ≡ heard l b → HearsLeaving l.is_pasting b result
leaving_heard l b result is = record {
  quit = λ e. is ∙ ap (heard_while l.is_pasting) (ap (given l.bytes) e ∙ quit_heard l.bytes);
  interrupt = λ e still.
      is ∙ ap (λ test. heard_while test (given l.bytes b)) still
      ∙ ap (heard_while false) (ap (given l.bytes) e ∙ interrupt_heard l.bytes);
}
