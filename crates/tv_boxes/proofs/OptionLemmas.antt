-- The options before that of a box, one by one.
use Rattle.std.proofs.Common.{◌≡◌, ℕ, ◌≤◌, ◌-◌, List, [], ◌∷◌, length, drop, take, get_or, true, false, Some, codes, if◌then◌else◌, ap, ◌∙◌, sym, arith}
use Rattle.std.proofs.lemmas.List.{take_all}
use Rattle.std.specs.Str.{bytes_eq}
use Rattle.tv_boxes.specs.declared.settings.Setting.{Setting}
use Rattle.tv_boxes.specs.declared.settings.Settings.{Settings}
use Rattle.tv_boxes.specs.Arguments.{behind_option, read_from, setting_named, with_setting}

-- the words behind the first one
abbrev pub behind_first : List (List ℕ) → List (List ℕ)
behind_first left = take (length left - 1) (drop 1 left)

all_behind : (first : List ℕ) (words : List (List ℕ)) → behind_first (first ∷ words) ≡ words
all_behind first words = take_all (length (first ∷ words) - 1) words (omega arith)

-- an option that isn't `--defaultno`
pub read_option : (s : Settings) (left : List (List ℕ)) (option : List ℕ) → 1 ≤ length left → option ≡ get_or left 0 option → bytes_eq option (codes "--defaultno") ≡ false → read_from s left ≡ behind_option s option (setting_named option) (behind_first left)
read_option s [] option some is other = absurd (omega (arith, some))
read_option s (first ∷ words) option some is other =
    ap (λ test. if test then read_from (record s { default_no = true }) words else behind_option s first (setting_named first) words)
    (ap (λ o. bytes_eq o (codes "--defaultno")) (sym is) ∙ other)
    ∙ ap (λ o. behind_option s o (setting_named o) words) (sym is) ∙ ap (behind_option s option (setting_named option)) (sym (all_behind first words))

-- `--defaultno`
pub read_no : (s : Settings) (left : List (List ℕ)) (option : List ℕ) → 1 ≤ length left → option ≡ get_or left 0 option → bytes_eq option (codes "--defaultno") ≡ true → read_from s left ≡ read_from (record s { default_no = true }) (behind_first left)
read_no s [] option some is same = absurd (omega (arith, some))
read_no s (first ∷ words) option some is same =
    ap (λ test. if test then read_from (record s { default_no = true }) words else behind_option s first (setting_named first) words)
    (ap (λ o. bytes_eq o (codes "--defaultno")) (sym is) ∙ same)
    ∙ ap (read_from (record s { default_no = true })) (sym (all_behind first words))

-- an option that sets something, by the word behind it
pub set_option : (s : Settings) (left : List (List ℕ)) (option word : List ℕ) (setting : Setting) → 1 ≤ length left → word ≡ get_or left 0 word → behind_option s option (Some setting) left ≡ read_from (with_setting setting word s) (behind_first left)
set_option s [] option word setting some is = absurd (omega (arith, some))
set_option s (first ∷ words) option word setting some is =
    ap (λ w. read_from (with_setting setting w s) words) (sym is) ∙ ap (read_from (with_setting setting word s)) (sym (all_behind first words))
