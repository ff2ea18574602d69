-- What reading a certificate gives is what the grammar says.
use Rattle.std.proofs.Common.{◌≡◌, ℕ, suc, ◌+◌, ◌<◌, ◌≤◌, ◌==◌, true, false, List, [], ◌∷◌, ◌++◌, length, take, Option, Some, None, Result, Ok, Err, refl, sym, ap, ◌∙◌, add-one, arith}
use Rattle.std.specs.Prelude.{codes, option_and_then, IfOk, IfErr, IfSome}
use Rattle.std.proofs.lemmas.Bool.{eqb-true}
use Rattle.std.proofs.lemmas.List.{take_all}
use Rattle.tv_words.specs.declared.word.Word.{Word}
use Rattle.tv_words.specs.declared.word.Word.TheVariants.{Bare}
use Rattle.tv_words.specs.Lines.{lines_of}
use Rattle.tv_words.specs.Words.{SpellsWords}
use Rattle.tv_words.specs.Texts.{BeginsBy, IsFirstFaultyLine, SpellsBy}
use Rattle.tv_words.specs.Reading.LineWords.{line_taken, line_words, words_taken}
use Rattle.tv_words.specs.Reading.Steps.{steps}
use Rattle.std.specs.Str.{is_utf8, chars}
use lib.Utf8.{encode}
use Rattle.tv_words.proofs.LineWordLemmas.{found_words}
use Rattle.tv_words.proofs.TextLemmas as texts
use Rattle.tv_model.specs.declared.desc.Version.TheVariants as versions
use Rattle.tv_certificate.specs.declared.certificate.Certificate.{Certificate}
use Rattle.tv_certificate.specs.declared.progress.Progress.{Progress}
use Rattle.tv_certificate.specs.declared.progress.Progress.TheVariants.{Fresh, Begun}
use Rattle.tv_certificate.specs.declared.progress.Stage.{Stage}
use Rattle.tv_certificate.specs.declared.progress.Stage.TheVariants as stages
use Rattle.tv_certificate.specs.declared.reading.CertificateFault.{CertificateFault}
use Rattle.tv_certificate.specs.declared.reading.CertificateFault.TheVariants.{NoMemory, Syntax, TooLong}
use Rattle.tv_certificate.specs.CertificateTexts.{GivesCertificate, IsCertificate, RefusesText, SpellsACertificate, SpellsCertificateLines, certificate_lines}
use Rattle.tv_certificate.specs.CertificateReading.{Fault, CertificateOutcome, CertificateStopsAt, Value, certificate_at_end, finished_certificate, certificate_from, certificate_outcome, certificate_line_taken, with_block}
use Rattle.tv_certificate.proofs.GrammarLemmas.{given_spelled, spelled_given}

abbrev taken_line : Progress → List ℕ → Option Progress
taken_line p line = line_taken certificate_line_taken p line

abbrev given_lines : Progress → List (List ℕ) → Option Certificate
given_lines p lines = option_and_then finished_certificate (steps taken_line p lines)

lines_spelled : (lines : List (List ℕ)) (certificate : Certificate) → given_lines Fresh lines ≡ Some certificate → SpellsBy certificate_lines IsCertificate lines certificate
lines_spelled = texts.lines_spelled certificate_line_taken Fresh finished_certificate certificate_lines IsCertificate given_spelled spelled_given

spelled_lines : (lines : List (List ℕ)) (certificate : Certificate) → SpellsBy certificate_lines IsCertificate lines certificate → given_lines Fresh lines ≡ Some certificate
spelled_lines = texts.spelled_lines certificate_line_taken Fresh finished_certificate certificate_lines IsCertificate given_spelled spelled_given

begins_taken : (lines : List (List ℕ)) → BeginsBy certificate_lines IsCertificate lines → (p : Progress) × (steps taken_line Fresh lines ≡ Some p)
begins_taken = texts.begins_taken certificate_line_taken Fresh finished_certificate certificate_lines IsCertificate given_spelled spelled_given

-- ---- lines that end a certificate from where it is read to

abbrev rest_at : Stage → List (List ℕ)
rest_at stages.Between = []
rest_at (stages.Tabs name tabs) = codes "tab a" ∷ codes "end" ∷ []
rest_at (stages.Keys block) = codes "end" ∷ []

abbrev rest_of : Progress → List (List ℕ)
rest_of Fresh = codes "tvcert 1" ∷ []
rest_of (Begun read stage) = rest_at stage

version_line : line_words (codes "tvcert 1") ≡ Some (Bare (codes "tvcert") ∷ Bare (codes "1") ∷ [])
unfolding is_utf8 chars encode
version_line = refl

tab_line : line_words (codes "tab a") ≡ Some (Bare (codes "tab") ∷ Bare (codes "a") ∷ [])
unfolding is_utf8 chars encode
tab_line = refl

end_line : line_words (codes "end") ≡ Some (Bare (codes "end") ∷ [])
unfolding is_utf8 chars encode
end_line = refl

abbrev Completes : Progress → Type 0
Completes p = (certificate : Certificate) × (given_lines p (rest_of p) ≡ Some certificate)

complete : (p : Progress) → Completes p
complete Fresh = (record { version = versions.One; blocks = [] }, rw version_line refl)
complete (Begun read stages.Between) = (read, refl)
complete (Begun read (stages.Tabs name [])) = (with_block read (record { dialog = name; tabs = codes "a" ∷ []; keys = [] }), rw (tab_line, end_line) refl)
complete (Begun read (stages.Tabs name (tab ∷ tabs))) = (with_block read (record { dialog = name; tabs = tab ∷ (tabs ++ codes "a" ∷ []); keys = [] }), rw (tab_line, end_line) refl)
complete (Begun read (stages.Keys block)) = (with_block read block, rw end_line refl)

-- lines along which the machine goes begin a certificate
taken_begins : (lines : List (List ℕ)) (p : Progress) → steps taken_line Fresh lines ≡ Some p → BeginsBy certificate_lines IsCertificate lines
taken_begins lines p e =
    let h = complete p in
    let all : given_lines Fresh (lines ++ rest_of p) ≡ Some h.0 = ap (option_and_then finished_certificate) (texts.steps_append taken_line lines (rest_of p) Fresh ∙ ap (option_and_then (λ t. steps taken_line t (rest_of p))) e) ∙ h.1 in
    (rest_of p, h.0, lines_spelled (lines ++ rest_of p) h.0 all)

-- ---- reading

abbrev went : ℕ → List (List ℕ) → Option Progress → CertificateOutcome
went n ls o = elim o as (λ _. CertificateOutcome) [ None ↦ Fault n | Some further ↦ certificate_from (n + 1) further ls ]

end_value : (n : ℕ) (o : Option Certificate) (certificate : Certificate) → certificate_at_end n o ≡ Value certificate → o ≡ Some certificate
end_value n None certificate e = absurd cc
end_value n (Some found) certificate e = cc

after_value : (n : ℕ) (ls : List (List ℕ)) (o : Option Progress) (certificate : Certificate) → ((m : ℕ) (q : Progress) → certificate_from m q ls ≡ Value certificate → given_lines q ls ≡ Some certificate) → went n ls o ≡ Value certificate → option_and_then finished_certificate (option_and_then (λ t. steps taken_line t ls) o) ≡ Some certificate
after_value n ls None certificate later e = absurd cc
after_value n ls (Some q) certificate later e = later (n + 1) q e

reading_gives : (lines : List (List ℕ)) (n : ℕ) (p : Progress) (certificate : Certificate) → certificate_from n p lines ≡ Value certificate → given_lines p lines ≡ Some certificate
reading_gives [] n p certificate e = end_value n (finished_certificate p) certificate e
reading_gives (l ∷ ls) n p certificate e = after_value n ls (taken_line p l) certificate (λ m q. reading_gives ls m q certificate) e

value_after : (n : ℕ) (ls : List (List ℕ)) (o : Option Progress) (certificate : Certificate) → ((m : ℕ) (q : Progress) → given_lines q ls ≡ Some certificate → certificate_from m q ls ≡ Value certificate) → option_and_then finished_certificate (option_and_then (λ t. steps taken_line t ls) o) ≡ Some certificate → went n ls o ≡ Value certificate
value_after n ls None certificate later e = absurd cc
value_after n ls (Some q) certificate later e = later (n + 1) q e

gives_reading : (lines : List (List ℕ)) (n : ℕ) (p : Progress) (certificate : Certificate) → given_lines p lines ≡ Some certificate → certificate_from n p lines ≡ Value certificate
gives_reading [] n p certificate e = ap (certificate_at_end n) e
gives_reading (l ∷ ls) n p certificate e = value_after n ls (taken_line p l) certificate (λ m q. gives_reading ls m q certificate) e

pub read_spelled : (text : List ℕ) (certificate : Certificate) → certificate_outcome text ≡ Value certificate → SpellsCertificateLines (lines_of text) certificate
read_spelled text certificate e = lines_spelled (lines_of text) certificate (reading_gives (lines_of text) 1 Fresh certificate e)

spelled_read : (text : List ℕ) (certificate : Certificate) → SpellsCertificateLines (lines_of text) certificate → certificate_outcome text ≡ Value certificate
spelled_read text certificate h = gives_reading (lines_of text) 1 Fresh certificate (spelled_lines (lines_of text) certificate h)

-- ---- the first faulty line

record Stops (p : Progress) (lines : List (List ℕ)) (n line : ℕ) : Type 0 where
  before : ℕ
  number : line ≡ n + before
  within : before ≤ length lines
  further : Progress
  goes : steps taken_line p (take before lines) ≡ Some further
  stops : before < length lines → steps taken_line p (take (before + 1) lines) ≡ None
  ends : before ≡ length lines → finished_certificate further ≡ None

end_fault : (n line : ℕ) (o : Option Certificate) → certificate_at_end n o ≡ Fault line → (o ≡ None) × (line ≡ n)
end_fault n line None e = (refl, cc)
end_fault n line (Some certificate) e = absurd cc

after_fault : (n line : ℕ) (p : Progress) (l : List ℕ) (ls : List (List ℕ)) (o : Option Progress) → taken_line p l ≡ o → ((m : ℕ) (q : Progress) → certificate_from m q ls ≡ Fault line → Stops q ls m line) → went n ls o ≡ Fault line → Stops p (l ∷ ls) n line
after_fault n line p l ls None eo later e =
    record { before = 0; number = (let same : n ≡ line = cc in omega arith); within = omega arith; further = p; goes = refl; stops = λ h. rw eo refl; ends = λ h. absurd (omega arith) }
after_fault n line p l ls (Some q) eo later e =
    let r = later (n + 1) q e in
    record {
      before = suc r.before;
      number = omega (arith, r.number);
      within = omega (arith, r.within);
      further = r.further;
      goes = rw eo r.goes;
      stops = λ h. rw (add-one, eo) (rw add-one at (r.stops (omega arith)));
      ends = λ h. r.ends (omega arith);
    }

reading_stops : (lines : List (List ℕ)) (n line : ℕ) (p : Progress) → certificate_from n p lines ≡ Fault line → Stops p lines n line
reading_stops [] n line p e =
    let r = end_fault n line (finished_certificate p) e in
    record { before = 0; number = omega (arith, r.1); within = omega arith; further = p; goes = refl; stops = λ h. absurd (omega arith); ends = λ h. r.0 }
reading_stops (l ∷ ls) n line p e = after_fault n line p l ls (taken_line p l) refl (λ m q. reading_stops ls m line q) e

first_fault : (lines : List (List ℕ)) (line : ℕ) → certificate_from 1 Fresh lines ≡ Fault line → IsFirstFaultyLine certificate_lines IsCertificate lines line
first_fault lines line e =
    let r = reading_stops lines 1 line Fresh e in
    let number : line ≡ r.before + 1 = omega (arith, r.number) in
    record {
      before = r.before;
      number = number;
      within = r.within;
      begins = taken_begins (take r.before lines) r.further r.goes;
      stops = λ h b. (let t = begins_taken (take line lines) b in let s : steps taken_line Fresh (take line lines) ≡ None = rw number (r.stops h) in let clash : None ≡ Some t.0 = sym s ∙ t.1 in absurd cc);
      missing = λ h certificate spelled. (
          let whole : take r.before lines ≡ lines = take_all r.before lines (omega arith) in
          let goes = rw whole at r.goes in
          let given : finished_certificate r.further ≡ Some certificate = sym (ap (option_and_then finished_certificate) goes) ∙ spelled_lines lines certificate spelled in
          let clash : None ≡ Some certificate = sym (r.ends h) ∙ given in
          absurd cc);
    }

-- ---- the answers of `read`

pub all_refused : (r : Result Certificate CertificateFault) (text : List ℕ) → length text ≤ 262144 → IfErr r (λ fault. CertificateStopsAt fault (certificate_outcome text)) → IfErr r (λ fault. RefusesText text fault)
all_refused (Ok certificate) text short h = tt
all_refused (Err NoMemory) text short h = tt
all_refused (Err (Syntax line)) text short h = (short, first_fault (lines_of text) line h)
all_refused (Err TooLong) text short h = absurd h

pub gives : (r : Result Certificate CertificateFault) (text : List ℕ) (certificate : Certificate) → IfOk r (λ found. certificate_outcome text ≡ Value found) → IfErr r (λ fault. CertificateStopsAt fault (certificate_outcome text)) → SpellsACertificate text certificate → GivesCertificate r certificate
gives (Ok found) text certificate ok err spelled = let same : Value found ≡ Value certificate = sym ok ∙ spelled_read text certificate spelled.lines in cc
gives (Err NoMemory) text certificate ok err spelled = tt
gives (Err (Syntax line)) text certificate ok err spelled = let clash : Fault line ≡ Value certificate = sym err ∙ spelled_read text certificate spelled.lines in absurd cc
gives (Err TooLong) text certificate ok err spelled = err

-- ---- what a line does, by the answers of the functions that read it

module _ (p : Progress) (line : List ℕ) (found : Option (List Word)) (spelled : IfSome found (λ ws. SpellsWords line ws)) (only : (ws : List Word) → SpellsWords line ws → found ≡ Some ws) where
  by_words : words_taken certificate_line_taken p found ≡ taken_line p line
  by_words = ap (words_taken certificate_line_taken p) (found_words line found spelled only)

  pub faulty_line : found ≡ None → taken_line p line ≡ None
  faulty_line e = sym by_words ∙ ap (words_taken certificate_line_taken p) e

  no_words : (ws : List Word) → true ≡ (length ws == 0) → words_taken certificate_line_taken p (Some ws) ≡ Some p
  no_words [] e = refl
  no_words (w ∷ ws) e = absurd (omega (arith, eqb-true (length (w ∷ ws)) 0 (sym e)))

  pub line_without_words : (ws : List Word) → found ≡ Some ws → true ≡ (length ws == 0) → taken_line p line ≡ Some p
  line_without_words ws e none = sym by_words ∙ ap (words_taken certificate_line_taken p) e ∙ no_words ws none

  with_words : (ws : List Word) → false ≡ (length ws == 0) → words_taken certificate_line_taken p (Some ws) ≡ certificate_line_taken p ws
  with_words [] e = absurd cc
  with_words (w ∷ ws) e = refl

  pub declared_line : (ws : List Word) (further : Option Progress) → found ≡ Some ws → false ≡ (length ws == 0) → further ≡ certificate_line_taken p ws → taken_line p line ≡ further
  declared_line ws further e some took = sym by_words ∙ ap (words_taken certificate_line_taken p) e ∙ with_words ws some ∙ sym took

-- ---- one text spells one certificate

pub one_value : (text : List ℕ) (certificate other : Certificate) → SpellsCertificateLines (lines_of text) certificate → SpellsCertificateLines (lines_of text) other → other ≡ certificate
one_value text certificate other h k = let same : Value other ≡ Value certificate = sym (spelled_read text other k) ∙ spelled_read text certificate h in cc
