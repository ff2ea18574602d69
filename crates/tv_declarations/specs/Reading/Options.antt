-- Values that may be missing.
use Rattle.std.specs.Prelude.{Option, Some, None}

-- a value of several, where none of them is missing
abbrev pub with2 : {A B R : Type 0} → (A → B → R) → Option A → Option B → Option R
with2 f None b = None
with2 f (Some a) None = None
with2 f (Some a) (Some b) = Some (f a b)

-- the same of three
abbrev pub with3 : {A B C R : Type 0} → (A → B → C → R) → Option A → Option B → Option C → Option R
with3 f None b c = None
with3 f (Some a) None c = None
with3 f (Some a) (Some b) None = None
with3 f (Some a) (Some b) (Some c) = Some (f a b c)

-- the same of four
abbrev pub with4 : {A B C D R : Type 0} → (A → B → C → D → R) → Option A → Option B → Option C → Option D
    → Option R
with4 f None b c d = None
with4 f (Some a) None c d = None
with4 f (Some a) (Some b) None d = None
with4 f (Some a) (Some b) (Some c) None = None
with4 f (Some a) (Some b) (Some c) (Some d) = Some (f a b c d)

-- the same of five
abbrev pub with5 : {A B C D E R : Type 0} → (A → B → C → D → E → R) → Option A → Option B → Option C
    → Option D → Option E → Option R
with5 f None b c d e = None
with5 f (Some a) None c d e = None
with5 f (Some a) (Some b) None d e = None
with5 f (Some a) (Some b) (Some c) None e = None
with5 f (Some a) (Some b) (Some c) (Some d) None = None
with5 f (Some a) (Some b) (Some c) (Some d) (Some e) = Some (f a b c d e)
