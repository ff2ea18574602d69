use Rattle.std.proofs.Common.{arith, ◌∙◌, ◌<◌, length, ap, sym, subst, slice_index_or}
use Rattle.tv_dialogs.proofs.PlacedLemmas.{place-declared, place-kept}
use Rattle.tv_dialogs.proofs.ShownLemmas.{read-shown}
use Rattle.tv_dialogs.proofs.dialogs.DialogsOf.draw.Goals as goal

pub index-requires : goal.index-requires
index-requires g c =
    let items = c.args.self.now.kept in
    let less : c.in-Some.place < length items.items = place-kept g.V.View.meaning c.args.desc.now c.requires.dialogs.0 c.args.self.now c.requires.dialogs.1 c.in-Some.place c.in-Some.is in
    omega (arith, items.ok.0)

declared_less : (g : _) (c : goal.After-as_slice g) → c.in-Some.place < length c.args.desc.now.dialogs
declared_less g c = place-declared g.V.View.meaning c.args.desc.now c.requires.dialogs.0 c.args.self.now c.requires.dialogs.1 c.in-Some.place c.in-Some.is

pub offset_bounds-as_slice-place : goal.offset_bounds-as_slice-place
offset_bounds-as_slice-place g c = let less = declared_less g c in let same = ap length c.as_slice.ensures in omega (arith, less, same, c.as_slice.type_inv.1)

pub bounds-as_slice-place : goal.bounds-as_slice-place
bounds-as_slice-place g c = subst (λ ds. c.in-Some.place < length ds) (sym c.as_slice.ensures) (declared_less g c)

pub returns-in-Some : goal.returns-in-Some
returns-in-Some g c r s sound are desktop =
    read-shown g.V.View.meaning c.args.desc.now r s c.args.self.now are c.in-Some.place c.in-Some.is c.index-as_slice-place.result c.index.result.now
    (c.index-as_slice-place.is ∙ ap (λ ds. slice_index_or ds c.in-Some.place c.index-as_slice-place.result) c.as_slice.ensures) c.index.ensures
    c.args.screen.now c.draw.new.screen sound
    (λ o overwriting m lawful stands work corner lies. c.draw.ensures c.args.desc.now r o overwriting m lawful stands work corner lies desktop)
