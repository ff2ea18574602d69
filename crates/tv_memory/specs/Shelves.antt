-- What files in memory hold.
use Rattle.std.specs.Prelude.{ℕ, ◌==◌, Bool, true, false, List, Option, Some, None, bytes_eq, is_none, length}
use Rattle.tv_files.specs.Files.{Known}

-- one of two texts, by which of them is asked for: none where the path is empty
abbrev pub text_if : (is_empty is_first is_second : Bool) → (first second : List ℕ) → Option (List ℕ)
text_if true is_first is_second first second = None
text_if false true is_second first second = Some first
text_if false false true first second = Some second
text_if false false false first second = None

-- the text at a path
abbrev pub text_at : (name text name2 text2 path : List ℕ) → Option (List ℕ)
text_at name text name2 text2 path =
    text_if (length path == 0) (bytes_eq path name) (bytes_eq path name2) text text2

-- the two files, and no others
abbrev pub files_of : (name text name2 text2 : List ℕ) → Known
files_of name text name2 text2 = record {
  contents = text_at name text name2 text2;
  absent = λ path. is_none (text_at name text name2 text2 path);
  opened = None;
  made = None;
  failures = None;
}
