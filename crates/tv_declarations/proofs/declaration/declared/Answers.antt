use Rattle.std.proofs.Common.{◌≡◌, Some}
use Rattle.std.specs.Prelude.{IfSome}
use Rattle.std.proofs.lemmas.Result.{IfOk-weaker}
use Rattle.tv_declarations.specs.declared.declaration.Declaration.{Declaration}
use Rattle.tv_declarations.specs.Reading.Declarations.{declaration_in}
use Rattle.tv_declarations.specs.Spelling.Declarations.{IsDeclarationLine}
use Rattle.tv_declarations.proofs.DeclarationLemmas.{found_line, line_found}
use Rattle.tv_declarations.proofs.declaration.declared.Goals as goal

pub returns-clause-spelled : goal.returns-clause-spelled
returns-clause-spelled c = IfOk-weaker c.read.result (λ found. found ≡ declaration_in c.args.at c.args.words.now) (λ found. IfSome found (λ d. IsDeclarationLine c.args.at d c.args.words.now)) (λ found. found_line c.args.at c.args.words.now found) c.read.ensures

pub returns-clause-only : goal.returns-clause-only
returns-clause-only c = IfOk-weaker c.read.result (λ found. found ≡ declaration_in c.args.at c.args.words.now) (λ found. (d : Declaration) → IsDeclarationLine c.args.at d c.args.words.now → found ≡ Some d) (λ found. line_found c.args.at c.args.words.now found) c.read.ensures
