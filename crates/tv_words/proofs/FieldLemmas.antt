-- What a word of a declaration is read as, and that it is its spelling.
use Rattle.std.proofs.Common.{◌≡◌, ℕ, Bool, true, false, cond, List, Option, Some, None, IfSome, refl, sym, ap}
use Rattle.std.specs.Prelude.{ℤ}
use Rattle.std.proofs.lemmas.Slice.Eq.{bytes_eq-Decides}
use Rattle.tv_words.specs.declared.word.Word.{Word}
use Rattle.tv_words.specs.declared.word.Word.TheVariants.{Bare, Quoted}
use Rattle.tv_words.specs.Names.{is_name}
use Rattle.tv_words.specs.Fields.{is_bare_word, name_in, text_in, number_word, IsNumber, IsName}
use Rattle.tv_words.specs.Reading.Numbers.{number_in}
use Rattle.tv_words.proofs.NumberLemmas.{number_read, read_number}

-- a keyword
pub word_is : (w : Word) (keyword : List ℕ) → is_bare_word w keyword ≡ true → w ≡ Bare keyword
word_is (Bare text) keyword e = ap (λ x. Bare x) ((bytes_eq-Decides text keyword).0 e)
word_is (Quoted text) keyword e = absurd cc

-- numbers
pub number_word_read : (w : Word) (n : ℤ) → number_in w ≡ Some n → (w ≡ number_word n) × IsNumber n
number_word_read (Bare text) n e = let r = number_read text n e in (ap (λ x. Bare x) (sym r.0), r.1)
number_word_read (Quoted text) n e = absurd cc

pub read_number_word : (n : ℤ) → IsNumber n → number_in (number_word n) ≡ Some n
read_number_word n fits = read_number n fits

-- what is read of a word is the number that it says
pub number_said : (w : Word) (found : Option ℤ) → found ≡ number_in w → IfSome found (λ n. (w ≡ number_word n) × IsNumber n)
number_said w None e = tt
number_said w (Some n) e = number_word_read w n (sym e)

-- names
name_if : (text name : List ℕ) (b : Bool) → is_name text ≡ b → cond b (Some text) None ≡ Some name → (Bare text ≡ Bare name) × IsName name
name_if text name true eb e = let same : text ≡ name = cc in (ap (λ x. Bare x) same, rw (← same) eb)
name_if text name false eb e = absurd cc

pub name_read : (w : Word) (name : List ℕ) → name_in w ≡ Some name → (w ≡ Bare name) × IsName name
name_read (Bare text) name e = name_if text name (is_name text) refl e
name_read (Quoted text) name e = absurd cc

pub read_name : (name : List ℕ) → IsName name → name_in (Bare name) ≡ Some name
read_name name is = rw is refl

-- texts
pub text_read : (w : Word) (text : List ℕ) → text_in w ≡ Some text → w ≡ Quoted text
text_read (Bare t) text e = absurd cc
text_read (Quoted t) text e = cc
