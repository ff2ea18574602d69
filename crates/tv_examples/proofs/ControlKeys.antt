-- Keys of lists and inputs.
use Rattle.std.specs.Prelude.{[], ◌∷◌}
use Rattle.std.proofs.Common.{refl}
use Rattle.tv_examples.specs.Descriptions.{with_control}
use Rattle.tv_examples.specs.Running.{written, Writes}

list_keys : Writes (with_control "list l 2 1 8 3 \"a\" \"b\" \"c\" \"d\" \"e\" start 1") ("key End" ∷ "key Down" ∷ "key PgUp" ∷ "key Ctrl-PgDn" ∷ "key Home" ∷ "key Enter" ∷ []) ("open f" ∷ "focus l" ∷ "press k" ∷ "end f ok" ∷ "field l 3" ∷ [])
unfolding written
list_keys = refl

-- typing goes over characters once Ins was pressed; a character too many is refused
input_keys : Writes (with_control "input t 2 1 10 4 any \"abc\"") ("key Left" ∷ "type \"X\"" ∷ "key Ins" ∷ "type \"YZ\"" ∷ "key Home" ∷ "key Del" ∷ "key Enter" ∷ []) ("open f" ∷ "focus t" ∷ "press k" ∷ "end f ok" ∷ "field t \"bXY\"" ∷ [])
unfolding written
input_keys = refl

-- what a picture leaves no choice about is filled in
picture_fills : Writes (with_control "input t 2 1 10 5 picture \"##/##\" \"\" fill") ("type \"1234\"" ∷ "key Enter" ∷ []) ("open f" ∷ "focus t" ∷ "press k" ∷ "end f ok" ∷ "field t \"12/34\"" ∷ [])
unfolding written
picture_fills = refl

picture_filled_by_hand : Writes (with_control "input t 2 1 10 5 picture \"##/##\" \"\" fill") ("type \"12/34\"" ∷ "key Enter" ∷ []) ("open f" ∷ "focus t" ∷ "press k" ∷ "end f ok" ∷ "field t \"12/34\"" ∷ [])
unfolding written
picture_filled_by_hand = refl

-- a letter is typed in its other case where the picture asks for that; what it does not allow is refused
picture_letters_refused : Writes (with_control "input t 2 1 10 8 picture \"*3#[-*2&]\" \"\"") ("type \"123-abc\"" ∷ "key Enter" ∷ []) ("open f" ∷ "focus t" ∷ "press k" ∷ "end f ok" ∷ "field t \"123-AB\"" ∷ [])
unfolding written
picture_letters_refused = refl
