use Rattle.std.proofs.Common.{◌≡◌, ◌∙◌, true, false, rules, sym, ap, if◌then◌else◌}
use Rattle.tv_model.specs.Kinds.InputLine.{edited}
use Rattle.tv_view.specs.declared.reaction.Reaction.TheVariants.{Done, Pass}
use Rattle.tv_controls.specs.InputLine.{input_leaf}
use Rattle.tv_controls.proofs.InputLemmas.{input_answer, input_keyed}
use Rattle.tv_controls.proofs.input_line.InputLine.key.Goals as goal

pub returns-then-not-is_own_key-clause-reaction : goal.returns-then-not-is_own_key-clause-reaction
returns-then-not-is_own_key-clause-reaction c env =
    let s = c.args.self.now in
    let other : c.is_own_key.result ≡ false = search rules in
    sym (input_answer c.args.key c.args.phase env (input_leaf s.core s.edit) s.own_kind
    ∙ ap (λ t. if t then Done else Pass) (sym c.is_own_key.ensures ∙ other))

pub returns-clause-reaction : goal.returns-clause-reaction
returns-clause-reaction c env =
    let s = c.args.self.now in
    let own : c.is_own_key.result ≡ true = search rules in
    sym (input_answer c.args.key c.args.phase env (input_leaf s.core s.edit) s.own_kind
    ∙ ap (λ t. if t then Done else Pass) (sym c.is_own_key.ensures ∙ own))

pub returns-clause-after : goal.returns-clause-after
returns-clause-after c =
    let s = c.args.self.now in
    let own : c.is_own_key.result ≡ true = search rules in
    ap (input_leaf s.core) c.edit.ensures
    ∙ sym (input_keyed c.args.key s.core s.domain s.edit c.args.phase s.own_kind s.asked
    ∙ ap (λ t. if t then input_leaf s.core (edited s.domain c.args.key s.edit) else input_leaf s.core s.edit)
    (sym c.is_own_key.ensures ∙ own))
