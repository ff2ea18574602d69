-- Findings grow dialog by dialog, and by ends that are refused.
use Rattle.std.proofs.Common.{◌≡◌, ◌∙◌, ℕ, ◌+◌, ◌<◌, List, [], ◌∷◌, ◌++◌, ap, append_assoc, refl, sym, flat_map, get_or, length, map, take}
use Rattle.std.proofs.lemmas.List.Elements.{All-nil, All-push}
use Rattle.tv_model.specs.declared.desc.Desc.{Desc}
use Rattle.tv_model.specs.declared.desc.Dialog.{Dialog}
use Rattle.tv_warnings.specs.Findings.{AddsRefused, IsRefusedEnd}
use Rattle.tv_warnings.specs.declared.finding.Finding.{Finding}
use Rattle.tv_warnings.specs.declared.finding.Finding.TheVariants as found
use Rattle.tv_warnings.specs.declared.finding.RefusedEnd.{RefusedEnd}
use Rattle.std.specs.List.{AllZip}
use Rattle.std.specs.Prelude.{Any}
use Rattle.tv_ways.specs.declared.asking.Way.{Way}
use Rattle.std.proofs.lemmas.List.{append-nil, map-append}
use Rattle.std.proofs.lemmas.List.Concat.{flat_map-append}
use Rattle.tv_app.proofs.DeclaredLemmas.{zip_more}

-- one list more
pub joined_more : {X : Type 0} (each : List (List X)) (xs : List X) → flat_map (λ (some : List X). some) (each ++ xs ∷ []) ≡ flat_map (λ (some : List X). some) each ++ xs
joined_more each xs = flat_map-append (λ some. some) each (xs ∷ []) ∙ ap (λ more. flat_map (λ some. some) each ++ more) (append-nil xs)

-- what is found in the next dialog too
pub found_more : {D X : Type 0} (R : D → List X → Type 0) (ds : List D) (i : ℕ) (d : D) (old new xs : List X) → i < length ds → d ≡ get_or ds i d
    → (each : List (List X)) × AllZip R (take i ds) each × (old ≡ flat_map (λ (some : List X). some) each)
    → new ≡ old ++ xs → R d xs
    → (each : List (List X)) × AllZip R (take (i + 1) ds) each × (new ≡ flat_map (λ (some : List X). some) each)
found_more R ds i d old new xs less is so_far added own =
    let each = so_far.0 ++ xs ∷ [] in (
      each,
      zip_more R ds i d so_far.0 each xs less is so_far.1 refl own,
      added ∙ ap (λ all. all ++ xs) so_far.2 ∙ sym (joined_more so_far.0 xs),
    )

-- ---- ends that are refused

pub refused_none : (d : Desc) (place : ℕ) (dialog : Dialog) (ways : List Way) (old : List Finding) → AddsRefused d place dialog ways old old
refused_none d place dialog ways old = ([], All-nil (λ end. Any (λ way. IsRefusedEnd d place dialog way end) ways), sym (append-nil old))

pub refused_more : (d : Desc) (place : ℕ) (dialog : Dialog) (ways : List Way) (i : ℕ) (way : Way) → i < length ways → way ≡ get_or ways i way
    → (old mid new : List Finding) (end : RefusedEnd) → AddsRefused d place dialog ways old mid
    → IsRefusedEnd d place dialog way end → new ≡ mid ++ found.Refused end ∷ [] → AddsRefused d place dialog ways old new
refused_more d place dialog ways i way less is old mid new end so_far own added =
    let told : RefusedEnd → Finding = λ (it : RefusedEnd). found.Refused it in (
      so_far.0 ++ end ∷ [],
      All-push (λ end. Any (λ way. IsRefusedEnd d place dialog way end) ways) so_far.0 end so_far.1 (i, way, less, sym is, own),
      added ∙ ap (λ (fs : List Finding). fs ++ found.Refused end ∷ []) so_far.2 ∙ append_assoc old (map told so_far.0) (found.Refused end ∷ [])
          ∙ ap (λ (fs : List Finding). old ++ fs) (sym (map-append told so_far.0 (end ∷ []))),
    )
