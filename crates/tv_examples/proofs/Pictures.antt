-- Pictures: what they hold, what comes next, their shortest members, and texts that are none.
use Prim.Native.String.{String}
use Rattle.std.specs.Prelude.{◌≡◌, ℕ, List, [], Option, Some, None, option_map, codes, replicate}
use Rattle.std.proofs.Common.{refl}
use Rattle.tv_picture.specs.declared.picture.Status.{Status}
use Rattle.tv_picture.specs.declared.picture.Status.TheVariants.{Complete, Viable, Error}
use Rattle.tv_picture.specs.Matching.{match_status, next_literal_of, shortest_length}
use Rattle.tv_picture.specs.Parsing.{picture_of}
use Rattle.tv_examples.specs.Running.{written}

-- how a text stands in a picture
abbrev status : String → List ℕ → Option Status
status picture text = option_map (λ p. match_status p text) (picture_of (codes picture))

-- the only character after which it is a member, or begins one
abbrev next : String → List ℕ → Option (Option ℕ)
next picture text = option_map (λ p. next_literal_of p text) (picture_of (codes picture))

-- the length of the shortest member
abbrev shortest : String → Option ℕ
shortest picture = option_map shortest_length (picture_of (codes picture))

date_digit : next "##/##" (codes "1") ≡ Some None
date_digit = refl

date_slash : next "##/##" (codes "12") ≡ Some (Some 47)
date_slash = refl

date_whole : status "##/##" (codes "12/34") ≡ Some Complete
date_whole = refl

date_over : next "##/##" (codes "12/34") ≡ Some None
date_over = refl

date_shortest : shortest "##/##" ≡ Some 5
unfolding written
date_shortest = refl

two_ways : next "{ab,ac}" [] ≡ Some (Some 97)
two_ways = refl

two_ways_parted : status "{ab,ac}" (codes "a") ≡ Some Viable
two_ways_parted = refl

two_ways_parted_next : next "{ab,ac}" (codes "a") ≡ Some None
two_ways_parted_next = refl

twice_next : next "*2{ab}" (codes "a") ≡ Some (Some 98)
twice_next = refl

twice_again : next "*2{ab}" (codes "ab") ≡ Some (Some 97)
twice_again = refl

twice_whole : status "*2{ab}" (codes "abab") ≡ Some Complete
twice_whole = refl

twice_shortest : shortest "*2{ab}" ≡ Some 4
unfolding written
twice_shortest = refl

many_none : status "*[a]" [] ≡ Some Complete
many_none = refl

many_three : status "*[a]" (codes "aaa") ≡ Some Complete
many_three = refl

many_shortest : shortest "*[a]" ≡ Some 0
unfolding written
many_shortest = refl

or_nothing : status "a," [] ≡ Some Complete
or_nothing = refl

or_one : status "a," (codes "a") ≡ Some Complete
or_one = refl

digits_half : status "*2{*120#}" (replicate 120 49) ≡ Some Viable
digits_half = refl

digits_next : next "*2{*120#}" (replicate 120 49) ≡ Some None
digits_next = refl

digits_shortest : shortest "*2{*120#}" ≡ Some 121
unfolding written
digits_shortest = refl

picture_letters : status "*3#[-*2&]" (codes "123") ≡ Some Complete
picture_letters = refl

picture_letters_begun : status "*3#[-*2&]" (codes "123-A") ≡ Some Viable
picture_letters_begun = refl

picture_letters_refused : status "*3#[-*2&]" (codes "12A") ≡ Some Error
picture_letters_refused = refl

picture_letters_shortest : shortest "*3#[-*2&]" ≡ Some 3
unfolding written
picture_letters_shortest = refl

picture_not_greedy : status "[ab]a" (codes "a") ≡ Some Complete
picture_not_greedy = refl

picture_both : status "[ab]a" (codes "aba") ≡ Some Complete
picture_both = refl

picture_begun : status "[ab]a" [] ≡ Some Viable
picture_begun = refl

picture_begun_both : status "[ab]a" (codes "ab") ≡ Some Viable
picture_begun_both = refl

picture_other : status "[ab]a" (codes "b") ≡ Some Error
picture_other = refl

-- texts that are no pictures

open_bracket : picture_of (codes "[a") ≡ None
open_bracket = refl

no_count : picture_of (codes "*0#") ≡ None
no_count = refl

closed_first : picture_of (codes "]") ≡ None
closed_first = refl

count_too_large : picture_of (codes "*121#") ≡ None
count_too_large = refl

nested_too_deep : picture_of (codes "[[[[[[[[[") ≡ None
nested_too_deep = refl
