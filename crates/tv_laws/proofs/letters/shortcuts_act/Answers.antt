use Rattle.tv_laws.proofs.KeyLaws.LetterLemmas.{marks-alike, one-line-in-first-version}
use Rattle.tv_laws.proofs.KeyLaws.NamedLemmas.{keys-act, named-acts, unable-named}
use Rattle.tv_laws.proofs.KeyLaws.NoneLemmas.{refused-acts-on-none}
use Rattle.tv_laws.proofs.MarkerLemmas.{marks-once, visible-is-marker}
use Rattle.tv_laws.proofs.letters.shortcuts_act.Goals as goal

pub returns : goal.returns
returns c =
    let d = c.args._dialog.now in
    let version = c.args._version in
    let sound = c.requires.sound in
    let lines = c.requires.lines in
    record {
      keys = keys-act d sound version lines;
      unable = unable-named d;
      refused = refused-acts-on-none d;
      acts = named-acts d sound version lines;
      once = marks-once d sound;
      visible = visible-is-marker d sound;
      marker = marks-alike version d lines;
      first = one-line-in-first-version d;
    }
