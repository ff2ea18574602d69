use Rattle.std.proofs.Common.{◌<◌, ◌≤◌, ◌&&◌, ◌||◌, length, nat_eq, take, sym, ap, ◌∙◌, subst, arith}
use Rattle.std.proofs.lemmas.List.{take_all}
use Rattle.std.proofs.lemmas.List.Folds.{list_any_more}
use Rattle.std.specs.HashSet as set
use Rattle.tv_model.specs.declared.node.Node.{Node}
use Rattle.tv_model.specs.Description.Letters.{marked_of}
use Rattle.tv_model.specs.Description.Sharing.{is_shared}
use Rattle.tv_names.specs.Marked.{is_marked_by, is_marked_in}
use Rattle.tv_names.specs.Sharing.{AreSharedOf, RuledViews}
use Rattle.tv_names.proofs.SharingLemmas.{shared_is_marked}
use Rattle.tv_names.proofs.sharing.letters.Goals as goal

pub loop-view-preserved : goal.loop-view-preserved
loop-view-preserved c =
    let views = c.args.views.now in
    let i = c.loop-view.view-index in
    let view = c.view-item.result in
    let less : i < length views = omega arith in
    let seen = set.contains nat_eq c.loop-view.seen in
    record {
      seen = λ ch.
          c.in_ok-note_all.ensures.seen ch
          ∙ ap (λ texts. seen ch || is_marked_in texts ch) c.marked_of.ensures
          ∙ ap (λ b. b || is_marked_in (marked_of view.kind) ch) (c.loop-view.invariant.seen ch)
          ∙ ap (λ (node : Node). is_marked_by (take i views) ch || is_marked_in (marked_of node.kind) ch) c.view-item.is
          ∙ sym (list_any_more (λ (node : Node). is_marked_in (marked_of node.kind) ch) views i view less);
      shared = subst (λ (all : RuledViews). AreSharedOf all.views all.rules (set.contains nat_eq c.note_all.new.seen) c.note_all.new.shared) c.in_ok-sharing.ensures c.in_ok-note_all.ensures.shared;
    }

pub returns : goal.returns
returns c = λ letter.
    let views = c.args.views.now in
    let past : length views ≤ c.loop-view.view-index = omega arith in
    c.loop-view.invariant.shared letter
    ∙ ap (λ b. b && is_shared views c.args.rules.now letter) (c.loop-view.invariant.seen letter ∙ ap (λ list. is_marked_by list letter) (take_all c.loop-view.view-index views past))
    ∙ shared_is_marked letter views c.args.rules.now
