use Rattle.std.proofs.Common.{Option, subst}
use Rattle.std.specs.Prelude.{IfSome}
use Rattle.tv_app.specs.declared.app.App.{App}
use Rattle.tv_app.specs.Opening.{IsSpelledSound}
use Rattle.tv_app.specs.Running.{Runs, started}
use Rattle.tv_model.specs.declared.desc.Desc.{Desc}
use Rattle.tv_ways.specs.Refusing.{IsRefused}
use Rattle.tv_ways.specs.declared.refusing.Refusal.{Refusal}
use Rattle.tv_ways.proofs.refusing.first_refusal.Goals as goal

pub returns-in-Some-2 : goal.returns-in-Some-2
returns-in-Some-2 c = λ d spelled.
    let app : Runs c.in-Some.app (started d)
    = subst (λ (o : Option App). IfSome o (λ app. (e : Desc) → IsSpelledSound c.args.text.now e → Runs app (started e))) c.in-Some.is (c.in_ok-app.ensures {u = tt}) d spelled in
    subst (λ (o : Option Refusal). IfSome o (λ r. (e : Desc) → Runs c.in-Some.app (started e) → IsRefused e c.args.place r.input r.events)) c.in-Some-2.is (c.in_ok-refusal.ensures {u = tt}) d app
