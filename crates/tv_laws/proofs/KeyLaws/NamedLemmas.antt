-- The act of a letter is that of what the certificate names for it.
use Rattle.std.proofs.Common.{◌≡◌, ◌&&◌, [], ◌∷◌, Some, None, IsTrue, refl, sym, ap, subst, ◌∙◌}
use Rattle.std.proofs.lemmas.Bool.{and_parts}
use Rattle.tv_model.specs.declared.desc.Dialog.{Dialog}
use Rattle.tv_model.specs.declared.desc.Version.{Version}
use Rattle.tv_model.specs.Description.Marks.{upper}
use Rattle.tv_model.specs.Description.Names.{gives_name, meant}
use Rattle.tv_model.specs.Description.Owners.{KeyOwner}
use Rattle.tv_machine.specs.Dialog.Rules.{is_kind_enabled, is_visible}
use Rattle.tv_machine.specs.Dialog.Shortcuts.{act_on}
use Rattle.tv_laws.specs.Letters.{HasLines, KeysActAsNamed, NamedActOnControls, UnableNamedDoNothing, has_link}
use Rattle.tv_laws.specs.Sound.{IsSoundDialog}
use Rattle.tv_laws.proofs.MarkerLemmas.{marker-named, named-line, named-marker}
use Rattle.tv_laws.proofs.KeyLaws.ActLemmas.{acts-on-owner}
use Rattle.tv_laws.proofs.KeyLaws.GrantLemmas.{acts-where-it-can}
use Rattle.tv_laws.proofs.KeyLaws.LetterLemmas.{alt-acts, own-letter-acts, typed-acts}
use Rattle.tv_laws.proofs.KeyLaws.NoneLemmas.{acts-on-none}

pub unable-named : (d : Dialog) → UnableNamedDoNothing d
unable-named d m letter None unable = refl
unable-named d m letter (Some named) unable = acts-on-none d m letter named.marker unable

module _ (d : Dialog) (sound : IsSoundDialog d) (version : Version) (has : HasLines version d) where
  pub keys-act : KeysActAsNamed version d
  keys-act = record {
    alt = λ m letter fit idle. alt-acts d m letter idle ∙ marker-named d m fit.standing version letter (has letter);
    typed = λ m ch focus fit idle there passed. typed-acts d m ch focus idle there passed ∙ marker-named d m fit.standing version (upper ch) (has (upper ch));
    own = λ m ch item focus fit idle there other e.
        let acts = own-letter-acts d sound m ch item focus fit idle there other e in
        (acts.0, acts.1 ∙ ap (λ o. act_on d (upper ch) o m) (sym acts.0) ∙ marker-named d m fit.standing version (upper ch) (has (upper ch)));
  }

  pub named-acts : NamedActOnControls version d
  named-acts m letter named control fit e can there =
      let shown = (and_parts (is_visible d m.leaves named.marker) (is_kind_enabled d m.leaves named.marker.node.kind && has_link d m.leaves named.marker.node.kind) can).0 in
      let marking = named-marker d m.leaves version letter named (has letter) e shown in
      let acts = acts-on-owner d sound version has m letter named.marker control fit marking there in
      let first = named-line d m.leaves version letter named e in
      let both : acts.0.line ∷ [] ≡ named.line ∷ first.0 = sym acts.0.named ∙ first.1 in
      let same : acts.0.line ≡ named.line = cc in
      record {
        holds = acts.0.named ∙ ap (λ line. line ∷ []) same;
        name = subst (λ (line : KeyOwner). IsTrue (gives_name line.owner.name control)) same acts.0.name;
        only = λ own. ap (λ (line : KeyOwner). meant d.views line.owner.name) (sym same) ∙ acts.0.only own;
        item = ap (λ (line : KeyOwner). line.owner.item) (sym same) ∙ acts.0.item;
        changes = acts.1;
        does = λ goes. acts-where-it-can d sound m letter named.marker control fit marking there can goes;
      }
