-- A certificate is read just where declarations spell it.
use Rattle.std.proofs.Common.{◌≡◌, ◌≢◌, ℕ, Bool, true, false, cond, List, [], ◌∷◌, ◌++◌, map, flat_map, Option, Some, None, refl, sym, ap, ◌∙◌, append_assoc, subst}
use Rattle.std.specs.Prelude.{codes, option_and_then}
use Rattle.std.specs.Option.{option_map}
use Rattle.std.specs.List.{AllByRecursion}
use Rattle.std.proofs.lemmas.List.{append-nil}
use Rattle.tv_words.specs.declared.word.Word.{Word}
use Rattle.tv_words.specs.Reading.Steps.{steps}
use Rattle.tv_words.specs.Fields.{IsName}
use Rattle.tv_model.specs.declared.desc.Version.{Version}
use Rattle.tv_certificate.specs.declared.certificate.Certificate.{Certificate}
use Rattle.tv_certificate.specs.declared.certificate.Block.{Block}
use Rattle.tv_certificate.specs.declared.certificate.KeyLine.{KeyLine}
use Rattle.tv_certificate.specs.declared.progress.Progress.{Progress}
use Rattle.tv_certificate.specs.declared.progress.Progress.TheVariants.{Fresh, Begun}
use Rattle.tv_certificate.specs.declared.progress.Stage.{Stage}
use Rattle.tv_certificate.specs.declared.progress.Stage.TheVariants as stages
use Rattle.tv_certificate.specs.CertificateTexts.{AreBlocks, LettersRise, IsCertificate, IsKeyLine, block_lines, certificate_lines, dialog_words, end_words, is_above, key_words, tab_words, version_words}
use Rattle.tv_certificate.specs.CertificateReading.{key_line_taken, after_tab, begun, finished_certificate, is_block_end, key_line_read, named_in, block_begun, certificate_line_taken, certificate_version_in, with_block, with_key}
use Rattle.tv_certificate.proofs.WordLemmas.{end_read, key_read, named_read, read_key, read_named, read_version, version_read}

-- what the machine gives for these declarations
abbrev pub given : Progress → List (List Word) → Option Certificate
given p wss = option_and_then finished_certificate (steps certificate_line_taken p wss)

abbrev went : List (List Word) → Option Progress → Option Certificate
went wss o = option_and_then finished_certificate (option_and_then (λ p. steps certificate_line_taken p wss) o)

abbrev with_keys : Block → List KeyLine → Block
with_keys block keys = record block { keys = block.keys ++ keys }

abbrev with_blocks : Certificate → List Block → Certificate
with_blocks read more = record read { blocks = read.blocks ++ more }

-- the lines of a block after its first, before other lines
abbrev rest_of_block : List (List ℕ) → List KeyLine → List (List Word) → List (List Word)
rest_of_block tabs keys after = map tab_words tabs ++ (map key_words keys ++ end_words ∷ after)

block_before : (block : Block) (after : List (List Word)) → block_lines block ++ after ≡ dialog_words block.dialog ∷ rest_of_block block.tabs block.keys after
block_before block after =
    ap (λ lines. dialog_words block.dialog ∷ lines)
    (append_assoc (map tab_words block.tabs) (map key_words block.keys ++ end_words ∷ []) after
    ∙ ap (λ lines. map tab_words block.tabs ++ lines) (append_assoc (map key_words block.keys) (end_words ∷ []) after))

-- a block, and then more of them
block_and_more : (read : Certificate) (block : Block) (more : List Block) → with_blocks (with_block read block) more ≡ with_blocks read (block ∷ more)
block_and_more read block more = ap (λ blocks. record read { blocks = blocks }) (append_assoc read.blocks (block ∷ []) more)

same_cons : (a b : List Word) (xs ys : List (List Word)) → a ≡ b → xs ≡ ys → a ∷ xs ≡ b ∷ ys
same_cons a b xs ys e f = rw (e, f) refl

-- ---- what is given is spelled

-- from where key lines or the end come
pub record KeysEnd (read : Certificate) (block : Block) (wss : List (List Word)) (all : Certificate) : Type 0 where
  keys : List KeyLine
  more : List Block
  value : all ≡ with_blocks read (with_keys block keys ∷ more)
  lines : wss ≡ map key_words keys ++ end_words ∷ flat_map block_lines more
  each : AllByRecursion (IsKeyLine read.version) keys
  rising : LettersRise read.version block.keys keys
  others : AreBlocks read.version more

-- from where tab lines or key lines come
pub record TabsEnd (read : Certificate) (name : List ℕ) (tabs : List (List ℕ)) (wss : List (List Word)) (all : Certificate) : Type 0 where
  names : List (List ℕ)
  keys : List KeyLine
  more : List Block
  value : all ≡ with_blocks read (record { dialog = name; tabs = tabs ++ names; keys = keys } ∷ more)
  lines : wss ≡ rest_of_block names keys (flat_map block_lines more)
  some : tabs ++ names ≢ []
  are_names : AllByRecursion IsName names
  each : AllByRecursion (IsKeyLine read.version) keys
  rising : LettersRise read.version [] keys
  others : AreBlocks read.version more

-- from where blocks come
pub record BlocksEnd (read : Certificate) (wss : List (List Word)) (all : Certificate) : Type 0 where
  more : List Block
  value : all ≡ with_blocks read more
  lines : wss ≡ flat_map block_lines more
  others : AreBlocks read.version more

abbrev EndsAt : Certificate → Stage → List (List Word) → Certificate → Type 0
EndsAt read stages.Between wss all = BlocksEnd read wss all
EndsAt read (stages.Tabs name tabs) wss all = TabsEnd read name tabs wss all
EndsAt read (stages.Keys block) wss all = KeysEnd read block wss all

abbrev Ends : Progress → List (List Word) → Certificate → Type 0
Ends Fresh wss all = (wss ≡ certificate_lines all) × IsCertificate all
Ends (Begun read stage) wss all = EndsAt read stage wss all

module _ (ws : List Word) (wss : List (List Word)) (all : Certificate) (later : (p : Progress) → given p wss ≡ Some all → Ends p wss all) where
  version_step : (o : Option Version) → certificate_version_in ws ≡ o → went wss (option_map begun o) ≡ Some all → Ends Fresh (ws ∷ wss) all
  version_step None eo e = absurd cc
  version_step (Some version) eo e =
      let t = later (begun version) e in
      subst (λ x. Ends Fresh (ws ∷ wss) x) (sym t.value) (same_cons ws (version_words version) wss (flat_map block_lines t.more) (version_read ws version eo) t.lines, t.others)

  dialog_step : (read : Certificate) (o : Option (List ℕ)) → named_in (codes "dialog") ws ≡ o → went wss (option_map (block_begun read) o) ≡ Some all → BlocksEnd read (ws ∷ wss) all
  dialog_step read None eo e = absurd cc
  dialog_step read (Some name) eo e =
      let r = named_read (codes "dialog") ws name eo in
      let t = later (Begun read (stages.Tabs name [])) e in
      let block : Block = record { dialog = name; tabs = t.names; keys = t.keys } in
      record {
        more = block ∷ t.more;
        value = t.value;
        lines = same_cons ws (dialog_words name) wss (rest_of_block t.names t.keys (flat_map block_lines t.more)) r.0 t.lines ∙ sym (block_before block (flat_map block_lines t.more));
        others = (record { dialog = r.1; some = t.some; tabs = t.are_names; keys = t.each; rising = t.rising }, t.others);
      }

  line_step : (read : Certificate) (block : Block) (line : KeyLine) (b : Bool) → key_line_read read.version ws ≡ Some line → is_above read.version block.keys line ≡ b → went wss (cond b (Some (Begun read (stages.Keys (with_key block line)))) None) ≡ Some all → KeysEnd read block (ws ∷ wss) all
  line_step read block line true el eb e =
      let r = key_read read.version ws line el in
      let t = later (Begun read (stages.Keys (with_key block line))) e in
      record {
        keys = line ∷ t.keys;
        more = t.more;
        value = t.value ∙ ap (λ keys. with_blocks read (record block { keys = keys } ∷ t.more)) (append_assoc block.keys (line ∷ []) t.keys);
        lines = same_cons ws (key_words line) wss (map key_words t.keys ++ end_words ∷ flat_map block_lines t.more) r.0 t.lines;
        each = (r.1, t.each);
        rising = (eb, t.rising);
        others = t.others;
      }
  line_step read block line false el eb e = absurd cc

  maybe_line : (read : Certificate) (block : Block) (o : Option KeyLine) → key_line_read read.version ws ≡ o → went wss (key_line_taken read block o) ≡ Some all → KeysEnd read block (ws ∷ wss) all
  maybe_line read block None eo e = absurd cc
  maybe_line read block (Some line) eo e = line_step read block line (is_above read.version block.keys line) eo refl e

  key_step : (read : Certificate) (block : Block) (b : Bool) → is_block_end ws ≡ b → went wss (cond b (Some (Begun (with_block read block) stages.Between)) (key_line_taken read block (key_line_read read.version ws))) ≡ Some all → KeysEnd read block (ws ∷ wss) all
  key_step read block true eb e =
      let t = later (Begun (with_block read block) stages.Between) e in
      record {
        keys = [];
        more = t.more;
        value = t.value ∙ block_and_more read block t.more ∙ ap (λ keys. with_blocks read (record block { keys = keys } ∷ t.more)) (sym (append-nil block.keys));
        lines = same_cons ws end_words wss (flat_map block_lines t.more) (end_read ws eb) t.lines;
        each = tt;
        rising = tt;
        others = t.others;
      }
  key_step read block false eb e = maybe_line read block (key_line_read read.version ws) refl e

  some_tabs : (tab : List ℕ) (tabs : List (List ℕ)) → (tab ∷ tabs) ++ [] ≢ []
  some_tabs tab tabs e = cc

  tab_step : (read : Certificate) (name : List ℕ) (tabs : List (List ℕ)) (o : Option (List ℕ)) → named_in (codes "tab") ws ≡ o → went wss (after_tab read name tabs o ws) ≡ Some all → TabsEnd read name tabs (ws ∷ wss) all
  tab_step read name tabs (Some tab) eo e =
      let r = named_read (codes "tab") ws tab eo in
      let t = later (Begun read (stages.Tabs name (tabs ++ tab ∷ []))) e in
      record {
        names = tab ∷ t.names;
        keys = t.keys;
        more = t.more;
        value = t.value ∙ ap (λ all_tabs. with_blocks read (record { dialog = name; tabs = all_tabs; keys = t.keys } ∷ t.more)) (append_assoc tabs (tab ∷ []) t.names);
        lines = same_cons ws (tab_words tab) wss (rest_of_block t.names t.keys (flat_map block_lines t.more)) r.0 t.lines;
        some = λ none. t.some (append_assoc tabs (tab ∷ []) t.names ∙ none);
        are_names = (r.1, t.are_names);
        each = t.each;
        rising = t.rising;
        others = t.others;
      }
  tab_step read name [] None eo e = absurd cc
  tab_step read name (tab ∷ tabs) None eo e =
      let t = key_step read (record { dialog = name; tabs = tab ∷ tabs; keys = [] }) (is_block_end ws) refl e in
      record {
        names = [];
        keys = t.keys;
        more = t.more;
        value = t.value ∙ ap (λ all_tabs. with_blocks read (record { dialog = name; tabs = all_tabs; keys = t.keys } ∷ t.more)) (sym (append-nil (tab ∷ tabs)));
        lines = t.lines;
        some = some_tabs tab tabs;
        are_names = tt;
        each = t.each;
        rising = t.rising;
        others = t.others;
      }

ends : (wss : List (List Word)) (p : Progress) (all : Certificate) → given p wss ≡ Some all → Ends p wss all
ends [] Fresh all e = absurd cc
ends [] (Begun read stages.Between) all e = record { more = []; value = (let same : read ≡ all = cc in sym same ∙ ap (λ blocks. record read { blocks = blocks }) (sym (append-nil read.blocks))); lines = refl; others = tt }
ends [] (Begun read (stages.Tabs name tabs)) all e = absurd cc
ends [] (Begun read (stages.Keys block)) all e = absurd cc
ends (ws ∷ wss) Fresh all e = version_step ws wss all (λ p. ends wss p all) (certificate_version_in ws) refl e
ends (ws ∷ wss) (Begun read stages.Between) all e = dialog_step ws wss all (λ p. ends wss p all) read (named_in (codes "dialog") ws) refl e
ends (ws ∷ wss) (Begun read (stages.Tabs name tabs)) all e = tab_step ws wss all (λ p. ends wss p all) read name tabs (named_in (codes "tab") ws) refl e
ends (ws ∷ wss) (Begun read (stages.Keys block)) all e = key_step ws wss all (λ p. ends wss p all) read block (is_block_end ws) refl e

pub given_spelled : (wss : List (List Word)) (certificate : Certificate) → given Fresh wss ≡ Some certificate → (wss ≡ certificate_lines certificate) × IsCertificate certificate
given_spelled wss certificate e = ends wss Fresh certificate e

-- ---- what is spelled is given

tabs_given : (tabs seen : List (List ℕ)) (read : Certificate) (name : List ℕ) (after : List (List Word)) → AllByRecursion IsName tabs → given (Begun read (stages.Tabs name seen)) (map tab_words tabs ++ after) ≡ given (Begun read (stages.Tabs name (seen ++ tabs))) after
tabs_given [] seen read name after are = ap (λ tabs. given (Begun read (stages.Tabs name tabs)) after) (sym (append-nil seen))
tabs_given (tab ∷ tabs) seen read name after are =
    rw (read_named (codes "tab") tab are.0) (tabs_given tabs (seen ++ tab ∷ []) read name after are.1 ∙ ap (λ all. given (Begun read (stages.Tabs name all)) after) (append_assoc seen (tab ∷ []) tabs))

keys_given : (keys : List KeyLine) (read : Certificate) (block : Block) (after : List (List Word)) → AllByRecursion (IsKeyLine read.version) keys → LettersRise read.version block.keys keys → given (Begun read (stages.Keys block)) (map key_words keys ++ after) ≡ given (Begun read (stages.Keys (with_keys block keys))) after
keys_given [] read block after are rising = ap (λ keys. given (Begun read (stages.Keys (record block { keys = keys }))) after) (sym (append-nil block.keys))
keys_given (line ∷ keys) read block after are rising =
    rw (read_key read.version line are.0, rising.0) (keys_given keys read (with_key block line) after are.1 rising.1 ∙ ap (λ all. given (Begun read (stages.Keys (record block { keys = all }))) after) (append_assoc block.keys (line ∷ []) keys))

-- after a block's tab lines, its key lines go on as after a key line
as_keys : (keys : List KeyLine) (read : Certificate) (name tab : List ℕ) (tabs : List (List ℕ)) (after : List (List Word)) → given (Begun read (stages.Tabs name (tab ∷ tabs))) (map key_words keys ++ end_words ∷ after) ≡ given (Begun read (stages.Keys (record { dialog = name; tabs = tab ∷ tabs; keys = [] }))) (map key_words keys ++ end_words ∷ after)
as_keys [] read name tab tabs after = refl
as_keys (line ∷ keys) read name tab tabs after = refl

block_ends : (read : Certificate) (name : List ℕ) (tabs : List (List ℕ)) (keys : List KeyLine) (after : List (List Word)) → tabs ≢ [] → AllByRecursion (IsKeyLine read.version) keys → LettersRise read.version [] keys → given (Begun read (stages.Tabs name tabs)) (map key_words keys ++ end_words ∷ after) ≡ given (Begun (with_block read (record { dialog = name; tabs = tabs; keys = keys })) stages.Between) after
block_ends read name [] keys after some are rising = absurd (some refl)
block_ends read name (tab ∷ tabs) keys after some are rising =
    as_keys keys read name tab tabs after ∙ keys_given keys read (record { dialog = name; tabs = tab ∷ tabs; keys = [] }) (end_words ∷ after) are rising

blocks_given : (more : List Block) (read : Certificate) → AreBlocks read.version more → given (Begun read stages.Between) (flat_map block_lines more) ≡ Some (with_blocks read more)
blocks_given [] read are = ap (λ blocks. Some (record read { blocks = blocks })) (sym (append-nil read.blocks))
blocks_given (block ∷ more) read are =
    let after : List (List Word) = flat_map block_lines more in
    let tail : List (List Word) = map key_words block.keys ++ end_words ∷ after in
    ap (given (Begun read stages.Between)) (block_before block after)
    ∙ ap (λ o. went (map tab_words block.tabs ++ tail) (option_map (block_begun read) o)) (read_named (codes "dialog") block.dialog are.0.dialog)
    ∙ tabs_given block.tabs [] read block.dialog tail are.0.tabs
    ∙ block_ends read block.dialog block.tabs block.keys after are.0.some are.0.keys are.0.rising
    ∙ blocks_given more (with_block read block) are.1
    ∙ ap (λ x. Some x) (block_and_more read block more)

pub spelled_given : (certificate : Certificate) → IsCertificate certificate → given Fresh (certificate_lines certificate) ≡ Some certificate
spelled_given certificate are =
    ap (λ o. went (flat_map block_lines certificate.blocks) (option_map begun o)) (read_version certificate.version)
    ∙ blocks_given certificate.blocks (record { version = certificate.version; blocks = [] }) are
