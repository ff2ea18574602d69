use Rattle.std.proofs.Common.{ap, refl}
use Rattle.tv_cells.specs.declared.canvas.Canvas.{Canvas}
use Rattle.tv_palette.specs.Chain.{coloured}
use Rattle.tv_dialogs.proofs.ShownLemmas.{shadow-laid}
use Rattle.tv_dialogs.proofs.kept.Kept.draw.Goals as goal

pub returns : goal.returns
returns g c desc r o overwriting m lawful stands work corner lies desktop =
    let d = c.args.declared.now in
    let screen = c.args.screen.now in
    c.draw.ensures.machine desc r d o overwriting m screen lawful stands
    (record {
      work = work;
      views = c.as_slice.ensures;
      palettes = record { owner = refl; chain = ap coloured c.chain.ensures };
      active = refl;
    })
    corner lies desktop
    (shadow-laid g.V.View.meaning desc r d o m c.args.self.now.dialog c.args.canvas c.bounds.result screen c.draw_shadow.new.screen stands corner desktop c.bounds.ensures.is
    (c.draw_shadow.ensures (ap (λ (k : Canvas). k.origin.x) desktop) (ap (λ (k : Canvas). k.origin.y) desktop)))
