use Rattle.std.proofs.Common.{◌≡◌, ◌⊎◌, inl, inr, List, ℕ, Some, [], ◌∷◌, get_or, false, arith, refl, ap, subst, sym}
use Rattle.std.proofs.lemmas.Bool.{false≢true}
use Rattle.tv_picture.specs.declared.code.Op.{Op}
use Rattle.tv_picture.specs.declared.code.Op.TheVariants.{Group, Many, Times}
use Rattle.tv_picture.specs.declared.row.Next.TheVariants.{Nothing}
use Rattle.tv_picture.specs.declared.row.Row.{Row}
use Rattle.tv_picture.specs.Pattern.{Pattern, empty, one, sequence, either, optional, group}
use Rattle.tv_picture.specs.Code.{patterns_after, height_after}
use Rattle.tv_picture.specs.Machine.{StandsOn, leaves_lowest}
use Rattle.tv_picture.specs.Table.{HasPlace, row_at}
use Rattle.tv_picture.proofs.Rows.{no_place, row_empty, row_either, row_optional, row_sequence}
use Rattle.tv_picture.proofs.Appended.{row_alone, row_group}
use Rattle.tv_picture.proofs.Lowest.{lowest_pushed, lowest_changed, lowest_joined}
use Rattle.tv_picture.proofs.reading.lowest_after.Goals as goal

pub returns-in-Empty : goal.returns-in-Empty
returns-in-Empty c = λ ps h e s.
    let start : Row = record { ends = c.only.result; next = Nothing } in
    lowest_pushed c.args.text.now c.args.first start c.args.tables.now c.args.height h ps (patterns_after ps c.args.op) empty (subst (λ (op : Op). leaves_lowest c.args.height op ≡ false) c.in-Empty.is c.requires.lowest) (subst (λ (op : Op). height_after c.args.height op ≡ Some h) c.in-Empty.is e) s (ap (patterns_after ps) c.in-Empty.is)
    (row_empty c.args.text.now 0 start c.only.ensures refl)

pub returns-in-One : goal.returns-in-One
returns-in-One c = λ ps h e s.
    let start : Row = record { ends = c.only.result; next = Nothing } in
    lowest_pushed c.args.text.now c.args.first c.append.result c.args.tables.now c.args.height h ps (patterns_after ps c.args.op) (one c.in-One.mark) (subst (λ (op : Op). leaves_lowest c.args.height op ≡ false) c.in-One.is c.requires.lowest) (subst (λ (op : Op). height_after c.args.height op ≡ Some h) c.in-One.is e) s (ap (patterns_after ps) c.in-One.is)
    (row_alone (one c.in-One.mark) c.args.text.now c.append.result (c.append.ensures empty (row_empty c.args.text.now 0 start c.only.ensures refl)))

pub returns-in-Sequence : goal.returns-in-Sequence
returns-in-Sequence c = λ ps h e s.
    lowest_joined c.args.text.now c.args.first c.gather_all.result c.args.tables.now _ c.args.height h ps c.args.op sequence (subst (λ (op : Op). leaves_lowest c.args.height op ≡ false) c.in-Sequence.is c.requires.lowest) (subst (λ (op : Op). height_after c.args.height op ≡ Some h) c.in-Sequence.is e) s (λ a b. ap (patterns_after (b ∷ a ∷ [])) c.in-Sequence.is)
    (λ a b p q. row_sequence a b c.args.text.now c.args.first _ 0 c.unended.result c.gather_all.result (omega arith) p q (λ k has. no_place k (subst (λ (f : Row). HasPlace f.ends k) c.unended.ensures has)) (ap (λ (f : Row). f.next) c.unended.ensures) c.gather_all.ensures)

pub returns-in-Either : goal.returns-in-Either
returns-in-Either c = λ ps h e s.
    lowest_joined c.args.text.now c.args.first c.join.result c.args.tables.now (record { rows = [] }) c.args.height h ps c.args.op either (subst (λ (op : Op). leaves_lowest c.args.height op ≡ false) c.in-Either.is c.requires.lowest) (subst (λ (op : Op). height_after c.args.height op ≡ Some h) c.in-Either.is e) s (λ a b. ap (patterns_after (b ∷ a ∷ [])) c.in-Either.is)
    (λ a b p q. row_either a b c.args.text.now 0 c.args.first (row_at (get_or c.args.tables.now 0 (record { rows = [] })) 0) c.join.result p (q.at 0 (omega arith)) c.join.ensures.ends c.join.ensures.next)

pub returns-in-Optional : goal.returns-in-Optional
returns-in-Optional c = λ ps h e s.
    let start : Row = record { ends = c.only.result; next = Nothing } in
    lowest_changed c.args.text.now c.args.first c.join-in-Optional.result c.args.tables.now c.args.height h ps c.args.op optional (subst (λ (op : Op). leaves_lowest c.args.height op ≡ false) c.in-Optional.is c.requires.lowest) (subst (λ (op : Op). height_after c.args.height op ≡ Some h) c.in-Optional.is e) s (λ a. ap (patterns_after (a ∷ [])) c.in-Optional.is)
    (λ a p. row_optional a c.args.text.now 0 c.args.first c.join-in-Optional.result p
    (row_either a empty c.args.text.now 0 c.args.first start c.join-in-Optional.result p (row_empty c.args.text.now 0 start c.only.ensures refl) c.join-in-Optional.ensures.ends c.join-in-Optional.ensures.next))

pub returns-in-Group : goal.returns-in-Group
returns-in-Group c = λ ps h e s. cases ps h e s c.in-Group.is
  where
    IsKept : Op → Type 0
    IsKept op = (op ≡ Group) ⊎ ((op ≡ Many) ⊎ ((n : ℕ) × (op ≡ Times n)))

    cases : (ps : List Pattern) (h : ℕ) → height_after c.args.height c.args.op ≡ Some h → StandsOn c.args.text.now c.args.first c.args.tables.now c.args.height ps → IsKept c.args.op → StandsOn c.args.text.now c.args.first c.args.tables.now h (patterns_after ps c.args.op)
    cases ps h e s (inl is) =
        lowest_changed c.args.text.now c.args.first c.args.first c.args.tables.now c.args.height h ps c.args.op group (subst (λ (op : Op). leaves_lowest c.args.height op ≡ false) is c.requires.lowest) (subst (λ (op : Op). height_after c.args.height op ≡ Some h) is e) s (λ a. ap (patterns_after (a ∷ [])) is)
        (λ a p. row_group a c.args.text.now c.args.first p)
    cases ps h e s (inr (inl is)) = absurd (false≢true (sym (subst (λ (op : Op). leaves_lowest c.args.height op ≡ false) is c.requires.lowest)))
    cases ps h e s (inr (inr (n, is))) = absurd (false≢true (sym (subst (λ (op : Op). leaves_lowest c.args.height op ≡ false) is c.requires.lowest)))
