use Rattle.std.proofs.Common.{◌≡◌, None, Some, Bool, if◌then◌else◌, refl, ap, subst, sym, ◌∙◌}
use Rattle.std.specs.Option.{option_map}
use Rattle.tv_machine.proofs.StepLemmas.{step_by_frame, step_by_hold}
use Rattle.tv_machine.specs.Session.Step.{dialog_with_hold, with_empty_log}
use Rattle.tv_session.specs.Running.{IsRunSince, seen_frame}
use Rattle.tv_session.proofs.CommandLemmas.{held_in, none_is}
use Rattle.tv_session.proofs.MarkedLemmas.{marked-aside, marked-same}
use Rattle.tv_session.proofs.RunningLemmas.{cleared, of_run, woken}
use Rattle.tv_session.proofs.run.RunOf.handle.Goals as goal

pub returns-then-self : goal.returns-then-self
returns-then-self g c = λ s r fit line.
    let d = c.args.desc.now in
    let look = g.V.View.meaning in
    let run = record c.args.self.now { log = c.clear.new.self; damage = c.clear-2.new.self } in
    subst (λ t. IsRunSince look d s t run)
    (sym (ap (λ (b : Bool). if b then with_empty_log s else step_by_frame d s.frame c.args.event.now (with_empty_log s)) (sym r.over ∙ c.if-self.true)))
    (cleared look d s c.args.self.now run r refl refl refl refl refl c.clear.ensures, marked-aside d s s (with_empty_log s) run.damage (marked-same d s run.damage) refl refl refl)

pub drag-requires : goal.drag-requires
drag-requires g c =
    let d = c.args.desc.now in
    let look = g.V.View.meaning in
    let s = c.requires.fit.0 in
    let r = c.requires.fit.1 in
    let run = record c.args.self.now { log = c.clear.new.self; damage = c.clear-2.new.self } in
    let held = r.frame ∙ ap (option_map seen_frame) c.in-Some.is in (
      with_empty_log s,
      woken look d s c.args.self.now run r refl refl refl refl refl c.clear.ensures c.requires.fit.2 c.requires.sound c.requires.size (sym r.over ∙ c.if-self.false) (Some (seen_frame c.in-Some.frame)) held,
    )

pub held_event-requires-clause-awake : goal.held_event-requires-clause-awake
held_event-requires-clause-awake g c =
    let d = c.args.desc.now in
    let look = g.V.View.meaning in
    let s = c.requires.fit.0 in
    let r = c.requires.fit.1 in
    let run = record c.args.self.now { log = c.clear.new.self; damage = c.clear-2.new.self } in
    let loose : s.frame ≡ None = r.frame ∙ ap (option_map seen_frame) c.in_default.is in
    let awake = woken look d s c.args.self.now run r refl refl refl refl refl c.clear.ensures c.requires.fit.2 c.requires.sound c.requires.size (sym r.over ∙ c.if-self.false) None loose in
    (with_empty_log s, awake)

pub free_event-requires-clause-awake : goal.free_event-requires-clause-awake
free_event-requires-clause-awake g c =
    let d = c.args.desc.now in
    let look = g.V.View.meaning in
    let s = c.requires.fit.0 in
    let r = c.requires.fit.1 in
    let run = record c.args.self.now { log = c.clear.new.self; damage = c.clear-2.new.self } in
    let loose : s.frame ≡ None = r.frame ∙ ap (option_map seen_frame) c.in_default.is in
    let awake = woken look d s c.args.self.now run r refl refl refl refl refl c.clear.ensures c.requires.fit.2 c.requires.sound c.requires.size (sym r.over ∙ c.if-self.false) None loose in
    (with_empty_log s, awake, none_is (dialog_with_hold s.dialog) (sym (c.held.ensures d (with_empty_log s) (of_run look d (with_empty_log s) run awake)) ∙ c.if-held.false))

pub returns-in-Some : goal.returns-in-Some
returns-in-Some g c = λ s r fit line.
    let d = c.args.desc.now in
    let look = g.V.View.meaning in
    let e = c.args.event.now in
    let run = record c.args.self.now { log = c.clear.new.self; damage = c.clear-2.new.self } in
    let over = sym r.over ∙ c.if-self.false in
    let held = r.frame ∙ ap (option_map seen_frame) c.in-Some.is in
    let dragged = woken look d s c.args.self.now run r refl refl refl refl refl c.clear.ensures fit c.requires.sound c.requires.size over (Some (seen_frame c.in-Some.frame)) held in
    subst (λ t. IsRunSince look d s t c.drag.new.self)
    (sym (ap (λ (b : Bool). if b then with_empty_log s else step_by_frame d s.frame e (with_empty_log s)) over ∙ ap (λ f. step_by_frame d f e (with_empty_log s)) held))
    (c.drag.ensures s (with_empty_log s) dragged (marked-aside d s s (with_empty_log s) run.damage (marked-same d s run.damage) refl refl refl))

pub returns-then-held : goal.returns-then-held
returns-then-held g c = λ s r fit line.
    let d = c.args.desc.now in
    let look = g.V.View.meaning in
    let e = c.args.event.now in
    let run = record c.args.self.now { log = c.clear.new.self; damage = c.clear-2.new.self } in
    let over = sym r.over ∙ c.if-self.false in
    let loose : s.frame ≡ None = r.frame ∙ ap (option_map seen_frame) c.in_default.is in
    let awake = woken look d s c.args.self.now run r refl refl refl refl refl c.clear.ensures fit c.requires.sound c.requires.size over None loose in
    let held = held_in s.dialog (sym (c.held.ensures d (with_empty_log s) (of_run look d (with_empty_log s) run awake)) ∙ c.if-held.true) in
    subst (λ t. IsRunSince look d s t c.held_event.new.self)
    (sym (ap (λ (b : Bool). if b then with_empty_log s else step_by_frame d s.frame e (with_empty_log s)) over
    ∙ ap (λ f. step_by_frame d f e (with_empty_log s)) loose ∙ ap (λ o. step_by_hold d o e (with_empty_log s)) held.2))
    (c.held_event.ensures s (with_empty_log s) held.0 (awake, marked-aside d s s (with_empty_log s) run.damage (marked-same d s run.damage) refl refl refl) held.2)

pub returns-else-held : goal.returns-else-held
returns-else-held g c = λ s r fit line.
    let d = c.args.desc.now in
    let look = g.V.View.meaning in
    let e = c.args.event.now in
    let run = record c.args.self.now { log = c.clear.new.self; damage = c.clear-2.new.self } in
    let over = sym r.over ∙ c.if-self.false in
    let loose : s.frame ≡ None = r.frame ∙ ap (option_map seen_frame) c.in_default.is in
    let awake = woken look d s c.args.self.now run r refl refl refl refl refl c.clear.ensures fit c.requires.sound c.requires.size over None loose in
    let free = none_is (dialog_with_hold s.dialog) (sym (c.held.ensures d (with_empty_log s) (of_run look d (with_empty_log s) run awake)) ∙ c.if-held.false) in
    subst (λ t. IsRunSince look d s t c.free_event.new.self)
    (sym (ap (λ (b : Bool). if b then with_empty_log s else step_by_frame d s.frame e (with_empty_log s)) over
    ∙ ap (λ f. step_by_frame d f e (with_empty_log s)) loose ∙ ap (λ o. step_by_hold d o e (with_empty_log s)) free))
    (c.free_event.ensures s (with_empty_log s) (awake, marked-aside d s s (with_empty_log s) run.damage (marked-same d s run.damage) refl refl refl) free line)
