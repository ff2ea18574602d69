-- One picture more.
use Rattle.std.proofs.Common.{◌≡◌, ℕ, List, [], ◌∷◌, ◌++◌, map, Some, Result, Ok, Err, MatchResult, refl, sym, ap, ◌∙◌, append-nil}
use Rattle.tv_program.specs.Albums.{FailsFor, Gains, NamedPicture}
use Rattle.tv_program.specs.declared.album.AlbumFault.{AlbumFault}
use Rattle.tv_main_tests.specs.Galleries.{GainsExhibit}

module _ {H : Type 0} (shown : H → NamedPicture) where
  shown-more : (old : List H) (picture : H) → map shown (old ++ picture ∷ []) ≡ map shown old ++ shown picture ∷ []
  shown-more [] picture = refl
  shown-more (first ∷ old) picture = ap (λ (t : List NamedPicture). shown first ∷ t) (shown-more old picture)

  pub gains-told : {T : Type 0} (failures : ℕ) (old new : List H) (picture : H) (r : Result T AlbumFault) (drawn : NamedPicture) → GainsExhibit old new picture r → shown picture ≡ drawn → MatchResult r (λ _. Gains (Some (record { pictures = map shown old; failures = failures })) (Some (record { pictures = map shown new; failures = failures })) (drawn ∷ [])) (λ fault. FailsFor (Some (record { pictures = map shown old; failures = failures })) (Some (record { pictures = map shown new; failures = failures })) fault)
  gains-told failures old new picture (Ok x) drawn more is = (ap (map shown) more ∙ shown-more old picture ∙ ap (λ (d : NamedPicture). map shown old ++ d ∷ []) is, refl)
  gains-told failures old new picture (Err fault) drawn same is = rw same.1 (ap (map shown) same.0 ∙ sym (append-nil (map shown old)), refl)
