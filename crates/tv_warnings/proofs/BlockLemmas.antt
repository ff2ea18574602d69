-- Reports grow by a block.
use Rattle.std.proofs.Common.{◌≡◌, ◌∙◌, ℕ, ◌+◌, ◌<◌, List, [], ◌∷◌, ◌++◌, Result, Ok, Err, String, ap, refl, sym, get_or, length, slice_index, string_bytes, subst, take}
use Rattle.std.specs.Prelude.{IfOk}
use Rattle.tv_advice.specs.Blocks.{IsBlockAt}
use Rattle.tv_advice.specs.declared.manner.Manner.{Manner}
use Rattle.tv_explain.specs.Places.{place, places_of}
use Rattle.tv_model.specs.declared.node.Id.{Id}
use Rattle.tv_app.proofs.DeclaredLemmas.{zip_more}
use Rattle.tv_model.specs.declared.desc.Desc.{Desc}
use Rattle.tv_warnings.specs.declared.finding.Finding.{Finding}
use Rattle.tv_warnings.specs.Findings.{code_of}
use Rattle.tv_warnings.specs.Warned.{IsWarning, IsWarningReport, StandsAt}
use Rattle.tv_warnings.proofs.FoundLemmas.{joined_more}

pub report_more : (manner : Manner) (name text : List ℕ) (d : Desc) (findings : List Finding) (at : ℕ) (finding : Finding) (report block further : List ℕ) → at < length findings → finding ≡ get_or findings at finding
    → IsWarningReport manner name text d (take at findings) report → IsWarning manner name text d finding block → further ≡ report ++ block
    → IsWarningReport manner name text d (take (at + 1) findings) further
report_more manner name text d findings at finding report block further less is so_far own added = record {
  blocks = so_far.blocks ++ block ∷ [];
  each = zip_more (IsWarning manner name text d) findings at finding so_far.blocks (so_far.blocks ++ block ∷ []) block less is so_far.each refl own;
  all = added ∙ ap (λ bytes. bytes ++ block) so_far.all ∙ sym (joined_more so_far.blocks block);
}

-- the block of what stands on a line, by the places of the lines
pub is_warning_by : {A : Type 0} {E : Type 0} (manner : Manner) (name text : List ℕ) (d : Desc) (finding : Finding) (own : Id) (places : List ℕ) (line : ℕ) (code : List ℕ) (r : Result (String A) E)
    → StandsAt d finding own → places ≡ places_of text → line ≡ slice_index places own.0 → code ≡ code_of finding
    → IfOk r (λ block. IsBlockAt manner name line code (string_bytes block)) → IfOk r (λ block. IsWarning manner name text d finding (string_bytes block))
unfolding place
is_warning_by manner name text d finding own places line code (Ok block) stands all here named begins = record {
  line = own;
  stands = stands;
  begins = subst (λ at. IsBlockAt manner name at (code_of finding) (string_bytes block)) (here ∙ ap (λ (ps : List ℕ). slice_index ps own.0) all)
      (subst (λ word. IsBlockAt manner name line word (string_bytes block)) named begins);
}
is_warning_by manner name text d finding own places line code (Err fault) stands all here named begins = tt
