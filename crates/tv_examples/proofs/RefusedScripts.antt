-- Scripts that aren't read.
use Rattle.std.specs.Prelude.{◌≡◌, [], ◌∷◌, Err, pos}
use Rattle.std.proofs.Common.{refl}
use Rattle.tv_script.specs.declared.script_text.ScriptFault.TheVariants.{Syntax, OffScreen}
use Rattle.tv_script.specs.Judging.{judged_as, judgement}
use Rattle.tv_examples.specs.Running.{written, text}

-- a point beside the screen
off_screen : judged_as (pos 20) (pos 10) (text ("down 20 0" ∷ [])) ≡ judgement [] (Err (OffScreen 1))
unfolding written
off_screen = refl

-- no such key
unknown_key : judged_as (pos 20) (pos 10) (text ("key Foo" ∷ [])) ≡ judgement [] (Err (Syntax 1))
unfolding written
unknown_key = refl

-- a text without its end
open_text : judged_as (pos 40) (pos 14) (text ("type \"a" ∷ [])) ≡ judgement [] (Err (Syntax 1))
unfolding written
open_text = refl

-- a point without its row
half_point : judged_as (pos 40) (pos 14) (text ("down 1" ∷ [])) ≡ judgement [] (Err (Syntax 1))
unfolding written
half_point = refl

-- the first faulty line decides
first_line : judged_as (pos 40) (pos 14) (text ("key Foo" ∷ "down 40 0" ∷ [])) ≡ judgement [] (Err (Syntax 1))
unfolding written
first_line = refl

first_point : judged_as (pos 40) (pos 14) (text ("down 40 0" ∷ "key Foo" ∷ [])) ≡ judgement [] (Err (OffScreen 1))
unfolding written
first_point = refl
