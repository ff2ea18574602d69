use Rattle.std.proofs.Common.{rules, arith, ◌||◌, ◌<◌, ◌≤◌, ◌∷◌, [], length, set, ap, sym, ◌∙◌, refl}
use Rattle.std.proofs.lemmas.List.{length-set, with_items_is}
use Rattle.tv_view.specs.Meaning.{alone}
use Rattle.tv_view.specs.Points.{moved_into}
use Rattle.tv_group.specs.Current.{is_at}
use Rattle.tv_group.specs.Handling.{scan_after, scan_answer}
use Rattle.tv_view.specs.declared.reaction.Reaction.TheVariants.{Pass}
use Rattle.tv_group.specs.Opened.{opened, opened_member}
use Rattle.tv_group.specs.declared.group.MemberOf.TheVariants.{outs-Leaf, outs-Pane}
use Rattle.tv_group.proofs.MembersLemmas.{leaves_of}
use Rattle.tv_group.proofs.ScanLemmas.{scan_after-leaf, scan_after-pane, scan_answer-leaf, scan_answer-pane, scanned-group, scanning-done, scanning-init, scanning-passed, scanning-taken}
use Rattle.tv_group.proofs.TurnLemmas.{current-asked, none-current, none-there}
use Rattle.tv_group.proofs.DamageLemmas.{damage-group, damage-one, damage-still, drawn-member-leaf, drawn-member-pane}
use Rattle.tv_group.proofs.group.+scan.Goals as goal

pub GroupOf::scan-returns-in-Some : goal.GroupOf::scan-returns-in-Some
GroupOf::scan-returns-in-Some g t c =
    let look = g.V.View.meaning in let e = c.args.event.now in let ph = c.args.phase in let env = c.args.env.now in
    let s = c.args.self.now in let ms = s.members.items in let k = c.in-Some.i in let m = c.index_mut in
    let inner = c.moved_into-inner.result in
    let h : k < length ms = omega arith in
    let asked =
    current-asked look inner ph env (sym c.goes_to_all.ensures ∙ c.if-not-goes_to_all.true) k ms m.result.now c.scan-reaction.new.self h c.scan-reaction.result
    (c.scan-reaction.ensures.reaction ∙ ap (λ x. scan_answer inner ph env (opened_member look x)) m.ensures.value)
    (c.scan-reaction.ensures.after ∙ ap (λ x. scan_after inner ph env (opened_member look x)) m.ensures.value) in
    let is = c.moved_into-inner.ensures ∙ ap (λ b. moved_into b e) c.rect-bounds.ensures.is in
    let done = scanned-group look e ph env s _ c.scan-reaction.result inner is refl (
      asked.0 ∙ ap (λ o. scan_answer inner ph env (leaves_of look o ms)) (sym c.in-Some.is),
      ap (λ o. leaves_of look o (set ms k c.scan-reaction.new.self)) c.in-Some.is ∙ asked.1 ∙ ap (λ o. scan_after inner ph env (leaves_of look o ms)) (sym c.in-Some.is),
    ) in
    let does = rw (m.ensures.value, c.new-own.ensures) at c.scan-reaction.ensures.damage in
    let one = damage-one look s.current k ms m.result.now c.scan-reaction.new.self (leaves_of look s.current ms) [] c.scan-reaction.new.damage h refl does in
    record {
      reaction = done.0;
      after = done.1;
      shape = (refl, refl);
      damage = damage-group look s _ [] c.scan-reaction.new.damage c.args.damage.now c.add_within.new.self refl one
          (rw c.rect-bounds.ensures.is at c.add_within.ensures.added) (rw c.rect-bounds.ensures.is at c.add_within.ensures.grown);
    }

pub GroupOf::scan-returns-in_default : goal.GroupOf::scan-returns-in_default
GroupOf::scan-returns-in_default g t c =
    let look = g.V.View.meaning in let e = c.args.event.now in let ph = c.args.phase in let env = c.args.env.now in
    let s = c.args.self.now in let ms = s.members.items in
    let inner = c.moved_into-inner.result in
    let h : length ms ≤ c.in-Some.i = omega arith in
    let none = none-there look inner ph env (sym c.goes_to_all.ensures ∙ c.if-not-goes_to_all.true) c.in-Some.i ms h in
    let is = c.moved_into-inner.ensures ∙ ap (λ b. moved_into b e) c.rect-bounds.ensures.is in
    let done = scanned-group look e ph env s s Pass inner is refl (
      none.0 ∙ ap (λ o. scan_answer inner ph env (leaves_of look o ms)) (sym c.in-Some.is),
      ap (λ o. leaves_of look o ms) c.in-Some.is ∙ none.1 ∙ ap (λ o. scan_after inner ph env (leaves_of look o ms)) (sym c.in-Some.is),
    ) in
    record { reaction = done.0; after = done.1; shape = (refl, refl); damage = damage-still look s s c.args.damage.now refl refl }

pub GroupOf::scan-returns-in_default-2 : goal.GroupOf::scan-returns-in_default-2
GroupOf::scan-returns-in_default-2 g t c =
    let look = g.V.View.meaning in let e = c.args.event.now in let ph = c.args.phase in let env = c.args.env.now in
    let s = c.args.self.now in let ms = s.members.items in
    let inner = c.moved_into-inner.result in
    let none = none-current look inner ph env (sym c.goes_to_all.ensures ∙ c.if-not-goes_to_all.true) ms in
    let is = c.moved_into-inner.ensures ∙ ap (λ b. moved_into b e) c.rect-bounds.ensures.is in
    let done = scanned-group look e ph env s s Pass inner is refl (
      none.0 ∙ ap (λ o. scan_answer inner ph env (leaves_of look o ms)) (sym c.in_default.is),
      ap (λ o. leaves_of look o ms) c.in_default.is ∙ none.1 ∙ ap (λ o. scan_after inner ph env (leaves_of look o ms)) (sym c.in_default.is),
    ) in
    record { reaction = done.0; after = done.1; shape = (refl, refl); damage = damage-still look s s c.args.damage.now refl refl }

pub GroupOf::scan-loop-member-init : goal.GroupOf::scan-loop-member-init
GroupOf::scan-loop-member-init g t c =
    let s = c.args.self.now in let at = c.deref_mut-member-items in
    let inner = c.moved_into-inner.result in
    record {
      unvisited = search rules;
      scanning = scanning-init g.V.View.meaning inner c.args.phase c.args.env.now s.current s.members.items at.result.now at.ensures.value;
      still = refl;
    }

pub GroupOf::scan-returns-then-not-is_pass : goal.GroupOf::scan-returns-then-not-is_pass
GroupOf::scan-returns-then-not-is_pass g t c =
    let look = g.V.View.meaning in let e = c.args.event.now in let ph = c.args.phase in let env = c.args.env.now in
    let s = c.args.self.now in let p = c.loop-member in let at = c.deref_mut-member-items in let r = c.scan-reaction-in-loop-member in
    let inner = c.moved_into-inner.result in
    let h : p.member-index < length p.member-items = omega arith in
    let asked = ap (λ b. b || is_at s.current p.member-index) (sym c.goes_to_all.ensures ∙ c.if-not-goes_to_all.false) in
    let taken =
    scanning-taken look inner ph env (leaves_of look s.current s.members.items) s.current p.member-index p.member-items
    p.invariant.scanning h c.member-item.result r.new.self asked r.result r.ensures.reaction r.ensures.after
    (sym c.is_pass.ensures ∙ c.if-not-is_pass.true) in
    let items =
    with_items_is s.members _
    (length-set p.member-items p.member-index r.new.self ∙ p.auto.member-items ∙ ap length at.ensures.value ∙ sym s.members.ok.0) in
    let is = c.moved_into-inner.ensures ∙ ap (λ b. moved_into b e) c.rect-bounds.ensures.is in
    let done = scanned-group look e ph env s _ r.result inner is refl (taken.0, ap (leaves_of look s.current) items ∙ taken.1) in
    let one = damage-one look s.current p.member-index p.member-items c.member-item.result r.new.self (leaves_of look s.current s.members.items) p.own r.new.damage h p.invariant.scanning.same r.ensures.damage in
    record {
      reaction = done.0;
      after = done.1;
      shape = (refl, refl);
      damage = damage-group look s _ p.own r.new.damage c.args.damage.now c.add_within-then-not-is_pass.new.self refl (rw (← ap (leaves_of look s.current) items) at one)
          (rw c.rect-bounds.ensures.is at c.add_within-then-not-is_pass.ensures.added) (rw (p.invariant.still, c.rect-bounds.ensures.is) at c.add_within-then-not-is_pass.ensures.grown);
    }

pub GroupOf::scan-loop-member-preserved : goal.GroupOf::scan-loop-member-preserved
GroupOf::scan-loop-member-preserved g t c =
    let look = g.V.View.meaning in let ph = c.args.phase in let env = c.args.env.now in
    let s = c.args.self.now in let p = c.loop-member in let r = c.scan-reaction-in-loop-member in
    let inner = c.moved_into-inner.result in
    let h : p.member-index < length p.member-items = omega arith in
    let asked = ap (λ b. b || is_at s.current p.member-index) (sym c.goes_to_all.ensures ∙ c.if-not-goes_to_all.false) in
    record {
      unvisited = search rules;
      scanning = scanning-passed look inner ph env (leaves_of look s.current s.members.items) s.current p.member-index p.member-items
          p.invariant.scanning h c.member-item.result r.new.self asked r.result r.ensures.reaction r.ensures.after
          (sym c.is_pass.ensures ∙ c.if-not-is_pass.false);
      still = p.invariant.still;
    }

pub GroupOf::scan-returns : goal.GroupOf::scan-returns
GroupOf::scan-returns g t c =
    let look = g.V.View.meaning in let e = c.args.event.now in let ph = c.args.phase in let env = c.args.env.now in
    let s = c.args.self.now in let p = c.loop-member in let at = c.deref_mut-member-items in
    let inner = c.moved_into-inner.result in
    let h : length p.member-items ≤ p.member-index = omega arith in
    let none =
    scanning-done look inner ph env (leaves_of look s.current s.members.items) s.current p.member-index p.member-items p.invariant.scanning h in
    let items = with_items_is s.members p.member-items (p.auto.member-items ∙ ap length at.ensures.value ∙ sym s.members.ok.0) in
    let is = c.moved_into-inner.ensures ∙ ap (λ b. moved_into b e) c.rect-bounds.ensures.is in
    let done = scanned-group look e ph env s _ _ inner is refl (none.0, ap (leaves_of look s.current) items ∙ none.1) in
    record {
      reaction = done.0;
      after = done.1;
      shape = (refl, refl);
      damage = rw p.invariant.still (damage-still look s _ c.args.damage.now refl (ap (leaves_of look s.current) items ∙ p.invariant.scanning.same));
    }

pub MemberOf::scan-returns-in-Leaf : goal.MemberOf::scan-returns-in-Leaf
MemberOf::scan-returns-in-Leaf g t c =
    let look = g.V.View.meaning in let e = c.args.event.now in let ph = c.args.phase in let env = c.args.env.now in
    record {
      reaction =
          c.offer.ensures.reaction
          ∙ ap (λ v. scan_answer e ph env (alone (look v) ∷ [])) c.in-Leaf.view-is
          ∙ scan_answer-leaf look e ph env c.args.self.now c.in-Leaf.view c.in-Leaf.is;
      after = rw (c.in-Leaf.is, outs-Leaf c.in-Leaf.view)
          (scan_after-leaf look e ph env c.in-Leaf.view c.offer.new.view
          (c.offer.ensures.after ∙ ap (λ v. scan_after e ph env (alone (look v) ∷ [])) c.in-Leaf.view-is));
      damage = rw (c.in-Leaf.is, outs-Leaf c.in-Leaf.view)
          (drawn-member-leaf look c.in-Leaf.view c.offer.new.view c.args.damage.now c.offer.new.damage (rw c.in-Leaf.view-is at c.offer.ensures.damage));
    }

pub MemberOf::scan-returns-in-Pane : goal.MemberOf::scan-returns-in-Pane
MemberOf::scan-returns-in-Pane g t c =
    let look = g.V.View.meaning in let e = c.args.event.now in let ph = c.args.phase in let env = c.args.env.now in
    record {
      reaction =
          c.scan.ensures.reaction
          ∙ ap (λ x. scan_answer e ph env (opened look x)) c.in-Pane.group-is
          ∙ scan_answer-pane look e ph env c.args.self.now c.in-Pane.group c.in-Pane.is;
      after = rw (c.in-Pane.is, outs-Pane c.in-Pane.group)
          (scan_after-pane look e ph env c.in-Pane.group c.scan.new.self
          (c.scan.ensures.after ∙ ap (λ x. scan_after e ph env (opened look x)) c.in-Pane.group-is));
      damage = rw (c.in-Pane.is, outs-Pane c.in-Pane.group)
          (drawn-member-pane look c.in-Pane.group c.scan.new.self _ c.args.damage.now c.scan.new.damage (rw c.in-Pane.group-is at c.scan.ensures.damage));
    }
