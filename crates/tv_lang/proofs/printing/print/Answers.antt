use Rattle.std.proofs.Common.{◌≡◌, string_bytes}
use Rattle.std.proofs.lemmas.Result.{IfOk-weaker}
use Rattle.tv_declarations.specs.CanonicalDescription.{description_text}
use Rattle.tv_lang.specs.CanonicalDescription.{CanBeSpelled, SpellsOnly}
use Rattle.tv_lang.proofs.PrintLemmas.{text_spells}
use Rattle.tv_lang.proofs.printing.print.Goals as goal

pub returns-clause-spelled : goal.returns-clause-spelled
returns-clause-spelled c = IfOk-weaker c.description_text.result (λ text. string_bytes text ≡ description_text c.args.desc.now) (λ text. CanBeSpelled c.args.desc.now → SpellsOnly (string_bytes text) c.args.desc.now) (λ text. text_spells c.args.desc.now (string_bytes text)) c.description_text.ensures
