-- Each dialog of a sound description that can be spelled is lawful.
use Rattle.std.proofs.Common.{get_or}
use Rattle.std.specs.List.{All, AllPairs}
use Rattle.std.proofs.lemmas.List.Elements.{All-from_recursion, All-tail}
use Rattle.tv_model.specs.declared.desc.Desc.{Desc}
use Rattle.tv_model.specs.declared.desc.Dialog.{Dialog}
use Rattle.tv_model.specs.Description.LawfulNodes.{IsLimited}
use Rattle.tv_model.specs.Faults.{IsSound}
use Rattle.tv_machine.specs.Dialog.Lawful.{IsLawfulDialog}
use Rattle.tv_declarations.specs.Spelling.{IsDescription, IsDialog}
use Rattle.tv_faults.specs.Sound.{Sound}
use Rattle.tv_faults.specs.Sound.Bodies.{dialog_body}
use Rattle.tv_faults.specs.Sound.Ends.{AreNotBothDefault}
use Rattle.tv_faults.specs.Sound.Letters.{HasOwnLetters}
use Rattle.tv_faults.specs.Sound.Limits.{EnablesLawfulCommand}
use Rattle.tv_faults.specs.Usable.{IsUsableDialog}
use Rattle.tv_faults.proofs.LackLemmas.{bodies}
use Rattle.tv_faults.proofs.LawfulFocusLemmas.{some_free}
use Rattle.tv_faults.proofs.LawfulPartLemmas.{lawful_effect, names_cluster}
use Rattle.tv_faults.proofs.LawfulPlaceLemmas.{leaves_lie}
use Rattle.tv_faults.proofs.RisingLemmas.{nodes_rise, views_rise}
use Rattle.tv_faults.proofs.SharedLetterLemmas.{letters_apart}
use Rattle.tv_faults.proofs.SoundLemmas.{sound_says}
use Rattle.tv_faults.proofs.UsableLemmas.{usable}

pub lawful_dialogs : (d : Desc) → IsDescription d → Sound d → All IsLawfulDialog d.dialogs
lawful_dialogs d is s k dialog less =
    let own : Dialog = get_or d.dialogs k dialog in
    let use_of : IsUsableDialog d own = (usable d s).dialogs k dialog less in
    let stands : IsDialog own = All-from_recursion IsDialog d.dialogs is.dialogs k dialog less in
    let limited : All IsLimited own.views = All-tail IsLimited own.node own.views use_of.nodes in
    let letters : HasOwnLetters (dialog_body d.version own) = ((bodies d HasOwnLetters).0 s.letters).1 k dialog less in
    let fits : All (λ rule. EnablesLawfulCommand rule.effect) own.rules = s.limits.texts.rules k dialog less in
    record {
      rising = nodes_rise d is k dialog less;
      limits = use_of.nodes;
      count = use_of.few;
      rules = λ i rule within. names_cluster own.views (get_or own.rules i rule) (s.rules k dialog less i rule within);
      effects = λ i rule within. lawful_effect (get_or own.rules i rule).effect (fits i rule within);
      places = leaves_lie own.node own.views stands.views use_of.inside;
      letters = letters_apart own d.version (views_rise d is k dialog less) stands.views (s.rules k dialog less) letters;
      defaults = ((bodies d (λ body. AllPairs AreNotBothDefault body.views)).0 s.defaults).1 k dialog less;
      «free» = λ leaves. some_free own leaves stands.views limited fits (s.focus k dialog less);
    }

pub sound_lawful : (d : Desc) → IsDescription d → IsSound d → All IsLawfulDialog d.dialogs
sound_lawful d is sound = lawful_dialogs d is (sound_says d sound)
