use Rattle.std.proofs.Common.{◌≡◌, false, map, rules, sym, ◌∙◌, arith}
use Rattle.std.proofs.lemmas.Bool.{iff_false}
use Rattle.tv_model.specs.Description.Certificates.{letters}
use Rattle.tv_model.specs.Description.Owners.{owners_of}
use Rattle.tv_check.specs.Certificates.{NamesOwner}
use Rattle.tv_check.specs.Lent.{lent_key_owner}
use Rattle.tv_check.proofs.FirstLemmas.{goes_on, gone, stops_here}
use Rattle.tv_check.proofs.acceptance_owners.first_letter.Goals as goal

pub returns-then-not-names_owners : goal.returns-then-not-names_owners
returns-then-not-names_owners c =
    let no : c.names_owners.result ≡ false = search rules in
    let own : map lent_key_owner c.deref.result.now ≡ owners_of c.args.owners.now.version c.args.owners.now.dialog c.letter-item.result = search rules in
    stops_here (NamesOwner c.args.owners.now.version (map (λ line. line.now) c.args.lines.now) c.args.owners.now.dialog) c.letters-letter-items.result.now letters c.loop-letter.letter-index c.letter-item.result
    c.letters-letter-items.ensures c.loop-letter-test.true c.letter-item.is c.loop-letter.invariant (λ named. iff_false c.names_owners.ensures no (named ∙ sym own))

pub loop-letter-preserved : goal.loop-letter-preserved
loop-letter-preserved c =
    goes_on (NamesOwner c.args.owners.now.version (map (λ line. line.now) c.args.lines.now) c.args.owners.now.dialog) c.letters-letter-items.result.now c.loop-letter.letter-index c.letter-item.result
    c.loop-letter-test.true c.letter-item.is c.loop-letter.invariant (search rules)

pub returns : goal.returns
returns c =
    gone (NamesOwner c.args.owners.now.version (map (λ line. line.now) c.args.lines.now) c.args.owners.now.dialog) c.letters-letter-items.result.now letters c.loop-letter.letter-index
    c.letters-letter-items.ensures (omega (arith, c.loop-letter-test.false)) c.loop-letter.invariant
