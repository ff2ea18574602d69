-- Lines that grow.
use Rattle.std.proofs.Common.{◌≡◌, ◌∙◌, ap, List, ◌++◌, append_assoc, Result, Ok, Err, IfOk}

-- what is added to a line that grew is added to the line
pub grown : {A : Type 0} (line first longer second longest : List A) → longer ≡ line ++ first → longest ≡ longer ++ second → longest ≡ line ++ (first ++ second)
grown line first longer second longest before after = rw (after, before) (append_assoc line first second)

-- the same, where it may fail, in the words of both
pub added : {A E : Type 0} (r : Result (List A) E) (line first longer second both : List A) → longer ≡ line ++ first → IfOk r (λ l. l ≡ longer ++ second) → first ++ second ≡ both → IfOk r (λ l. l ≡ line ++ both)
added (Ok l) line first longer second both before after joined = grown line first longer second l before after ∙ ap (λ x. line ++ x) joined
added (Err e) line first longer second both before after joined = tt
