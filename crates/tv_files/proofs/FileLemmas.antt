-- One file after another, and what was read of one.
use Rattle.std.proofs.Common.{◌≡◌, ℕ, ◌+◌, List, [], ◌∷◌, ◌++◌, take, Option, Some, None, IfSome, ap, subst, sym, ◌∙◌, append_assoc}
use Rattle.tv_io.specs.Reader.{Given}
use Rattle.tv_io.specs.Reading.{IsRead}
use Rattle.tv_files.specs.Ends.{End}
use Rattle.tv_files.specs.Files.{CountStays, Extends, IsFileOf, Known, LeavesFiles, Opens}
use Rattle.tv_files.specs.Tasks.{BreaksOffIn, GivesText, IsUngiven, IsUnopened, IsUnread}
use Rattle.tv_files.specs.Tasks.IsUngiven.{memory as ungiven_memory, broken as ungiven_broken}
use Rattle.tv_files.specs.Tasks.IsUnopened.{memory, missing}
use Rattle.tv_files.specs.Tasks.IsUnread.{unopened, broken}

-- ---- opening

Extends-then : (a b c : Option (List (List ℕ))) (x y : List (List ℕ)) → Extends a b x → Extends b c y → Extends a c (x ++ y)
Extends-then None b c x y p q = tt
Extends-then (Some a) None c x y p q = absurd p
Extends-then (Some a) (Some b) None x y p q = absurd q
Extends-then (Some a) (Some b) (Some c) x y p q = q ∙ ap (λ (t : List (List ℕ)). t ++ y) p ∙ append_assoc a x y

CountStays-then : (a b c : Option ℕ) → CountStays a b → CountStays b c → CountStays a c
CountStays-then None b c p q = tt
CountStays-then (Some a) None c p q = absurd p
CountStays-then (Some a) (Some b) None p q = absurd q
CountStays-then (Some a) (Some b) (Some c) p q = q ∙ p

Leaves-then : {a b c : Known} → LeavesFiles a b → LeavesFiles b c → LeavesFiles a c
Leaves-then {a} {b} {c} p q = record {
  none = Extends-then a.made b.made c.made [] [] p.none q.none;
  count = CountStays-then a.failures b.failures c.failures p.count q.count;
  same = λ path. q.same path ∙ p.same path;
  there = λ path. q.there path ∙ p.there path;
}

Opens-then : {a b c : Known} (x y : List (List ℕ)) → Opens a b x → Opens b c y → Opens a c (x ++ y)
Opens-then {a} {b} {c} x y p q = record {
  order = Extends-then a.opened b.opened c.opened x y p.order q.order;
  leaves = Leaves-then p.leaves q.leaves;
}

-- what is known of the second file was known before the first one was opened
module _ {files mid : Known} (file beside : List ℕ) (opens : Opens files mid (file ∷ [])) where
  pub IsFileOf-then : {reader : Given} → IsFileOf mid beside reader → IsFileOf files beside reader
  IsFileOf-then is = record { there = sym (opens.leaves.there beside) ∙ is.there; left = rw (opens.leaves.same beside) at is.left; going = is.going; unfailed = is.unfailed }

  BreaksOffIn-then : {limit : ℕ} → BreaksOffIn limit mid beside → BreaksOffIn limit files beside
  BreaksOffIn-then breaks = record { reader = breaks.reader; left = breaks.left; file = IsFileOf-then breaks.file; breaks = breaks.breaks }

module _ {files mid after : Known} (file beside : List ℕ) (opens : Opens files mid (file ∷ [])) where
  -- the second file was opened
  pub Opens-both : Opens mid after (beside ∷ []) → Opens files after (file ∷ beside ∷ [])
  Opens-both = Opens-then (file ∷ []) (beside ∷ []) opens

  -- the second file was read
  pub Gives-then : {limit : ℕ} {text : List ℕ} → GivesText limit mid after (beside ∷ []) beside text → GivesText limit files after (file ∷ beside ∷ []) beside text
  Gives-then gives = record {
    opens = Opens-both gives.opens;
    text_of = rw (opens.leaves.same beside) at gives.text_of;
  }

  -- the second file wasn't opened
  pub IsUnopened-then : {end : End} → IsUnopened mid after (beside ∷ []) beside end → IsUnopened files after (file ∷ beside ∷ []) beside end
  IsUnopened-then (memory left is) = memory (Leaves-then opens.leaves left) is
  IsUnopened-then (missing opened none is) = missing (Opens-both opened) (rw (opens.leaves.same beside) at none) is

  -- the second file wasn't read
  pub IsUnread-then : {limit : ℕ} {end : End} → IsUnread limit mid after (beside ∷ []) beside end → IsUnread limit files after (file ∷ beside ∷ []) beside end
  IsUnread-then (unopened is) = unopened (IsUnopened-then is)
  IsUnread-then (broken opened breaks is) = broken (Opens-both opened) (BreaksOffIn-then file beside opens breaks) is

-- ---- reading

text-of : (limit : ℕ) (contents left : Option (List ℕ)) (text : List ℕ) → IfSome contents (λ whole. left ≡ Some whole) → IfSome left (λ all. text ≡ take (limit + 1) all) → IfSome contents (λ whole. text ≡ take (limit + 1) whole)
text-of limit None left text is first = tt
text-of limit (Some whole) left text is first = subst (λ given. IfSome given (λ all. text ≡ take (limit + 1) all)) is first

module _ {files after : Known} {opened : List (List ℕ)} (limit : ℕ) (path : List ℕ) (reader left : Given) (opens : Opens files after opened) (is : IsFileOf files path reader) where
  -- the file's text was read
  pub IsRead-Gives : (text : List ℕ) → IsRead limit reader left text → GivesText limit files after opened path text
  IsRead-Gives text read = record { opens = opens; text_of = text-of limit (files.contents path) reader.left text is.left read.first }

  -- it wasn't
  pub IsUngiven-IsUnread : {end : End} → IsUngiven limit reader left path end → IsUnread limit files after opened path end
  IsUngiven-IsUnread (ungiven_memory told) = unopened (memory opens.leaves told)
  IsUngiven-IsUnread (ungiven_broken breaks told) = broken opens (record { reader = reader; left = left; file = is; breaks = breaks }) told
