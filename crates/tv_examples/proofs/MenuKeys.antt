-- Keys of menus.
use Rattle.std.specs.Prelude.{[], ◌∷◌}
use Rattle.std.proofs.Common.{refl}
use Rattle.tv_examples.specs.Descriptions.{menus}
use Rattle.tv_examples.specs.Running.{written, Writes}

menu_keys : Writes menus ("key F10" ∷ "key Right" ∷ "key Enter" ∷ "key Alt-F" ∷ "key Up" ∷ "key Enter" ∷ "key F10" ∷ []) ("command 102" ∷ "quit" ∷ [])
unfolding written
menu_keys = refl
