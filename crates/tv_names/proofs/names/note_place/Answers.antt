use Rattle.std.proofs.Common.{◌≡◌, Some, None, true, cond, ap, arith, bytes_eq}
use Rattle.std.specs.Cmp.Lexicographic.{bytes_decides}
use Rattle.tv_names.specs.Named.{place_in}
use Rattle.tv_names.proofs.names.note_place.Goals as goal

pub returns-in_ok-insert : goal.returns-in_ok-insert
returns-in_ok-insert c = λ other.
    let places = c.args.places.now in
    let name = c.args.name.now in
    let written : place_in c.insert.new.self other ≡ cond (bytes_eq name other) (Some c.args.place) (place_in places other) = c.in_ok-insert.ensures.updates.0 (record { ref_ptr = (0, 0); now = other }) in
    let same : bytes_eq name other ≡ true → place_in places name ≡ place_in places other = λ t. ap (place_in places) ((bytes_decides name other).0 t) in
    let none : place_in places name ≡ None = grind (arith, c.contains_key.ensures, c.if-not-contains_key.true) in
    grind (arith, written, same, none)
