-- One space more.
use Rattle.std.proofs.Common.{◌≡◌, ℕ, List, [], ◌∷◌, ◌++◌, suc, replicate, ap, ◌∙◌, append_assoc}

pub one_space : (row longer whole : List ℕ) (left : ℕ) → longer ≡ row ++ 32 ∷ [] → row ++ replicate (suc left) 32 ≡ whole → longer ++ replicate left 32 ≡ whole
one_space row longer whole left pushed so =
    ap (λ r. r ++ replicate left 32) pushed ∙ append_assoc row (32 ∷ []) (replicate left 32) ∙ so
