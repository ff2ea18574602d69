-- One item more, and a writer that fails at one.
use Rattle.std.proofs.Common.{◌≡◌, ℕ, ◌+◌, ◌<◌, List, [], ◌∷◌, ◌++◌, Result, IfErr, length, get_or, take, drop, refl, sym, ap, subst, ◌∙◌, append_assoc, arith, length-append}
use Rattle.std.proofs.lemmas.List.{append-nil, take-append-drop, take_all}
use Rattle.std.proofs.Math.Seq.{take-append-add, take-append_seam}
use Rattle.tv_machine.specs.declared.script.Item.{Item}
use Rattle.tv_machine.specs.Run.{Session, quiet}
use Rattle.tv_model.specs.Log.LogText.{log_text}
use Rattle.tv_machine.specs.Output.{output, after, item_text, session_after, states, texts}
use Rattle.tv_script.proofs.RunLemmas.{states-push, states-take_more, texts-append, texts-push, texts-take_more}
use Rattle.tv_io.specs.Writer.{Seen, Takes, Cuts}
use Rattle.tv_script.specs.Performed.{Stops}
use Rattle.tv_script.specs.Streams.{Performs}
use Rattle.tv_io.proofs.WriterLemmas.{Takes-then, Cuts-longer, Cuts-after, Cuts-along}

-- items, one more
module _ (s : Session) (items : List Item) (i : ℕ) (d : Item) (lt : i < length items) where
  abbrev here : Session
  here = after s (take i items)

  output-more : output s (take (i + 1) items) ≡ output s (take i items) ++ item_text here (get_or items i d)
  output-more =
      ap (λ x. log_text s.desc s.state.log ++ x) (texts-take_more session_after item_text (quiet s) items i d lt)
      ∙ sym (append_assoc (log_text s.desc s.state.log) (texts session_after item_text (quiet s) (take i items)) (item_text here (get_or items i d)))

  pub after-more : session_after here (get_or items i d) ≡ after s (take (i + 1) items)
  after-more = sym (states-take_more session_after (quiet s) items i d lt)

  pub more_takes : {a b c : Seen} → Takes a b (output s (take i items)) → Takes b c (item_text here (get_or items i d)) → Takes a c (output s (take (i + 1) items))
  more_takes p q = rw output-more (Takes-then _ _ p q)

  pub more_stops : {a b c : Seen} (Left : Session → Type 0) → Left (session_after here (get_or items i d)) → Takes a b (output s (take i items)) → Cuts b c (item_text here (get_or items i d)) → Stops s items (i + 1) a c Left
  more_stops Left stands p q = record {
    few = omega arith;
    cut = Cuts-along (sym output-more) (Cuts-after (output s (take i items)) (item_text here (get_or items i d)) p q);
    whole = λ k f. let same : i ≡ k = omega arith in rw (← same) (q.front, refl);
    state = subst Left after-more stands;
  }

-- items, one more at their end
module _ (s : Session) (items : List Item) (item : Item) where
  output-push : output s (items ++ item ∷ []) ≡ output s items ++ item_text (after s items) item
  output-push =
      ap (λ x. log_text s.desc s.state.log ++ x) (texts-push session_after item_text (quiet s) items item)
      ∙ sym (append_assoc (log_text s.desc s.state.log) (texts session_after item_text (quiet s) items) (item_text (after s items) item))

  pub performs_push : {a b c : Seen} (Before Left : Session → Type 0) → Performs s items a b Before → Takes b c (item_text (after s items) item) → Left (session_after (after s items) item) → Performs s (items ++ item ∷ []) a c Left
  performs_push Before Left performed takes left = record {
    written = rw output-push (Takes-then _ _ performed.written takes);
    left = subst Left (sym (states-push session_after (quiet s) items item)) left;
  }

  pub stops_push : {a b c : Seen} (Before Left : Session → Type 0) (more : List Item) → Performs s items a b Before → Cuts b c (item_text (after s items) item) → Left (session_after (after s items) item) → Stops s (items ++ item ∷ more) (length items + 1) a c Left
  stops_push Before Left more performed cut left =
      let front : take (length items + 1) (items ++ item ∷ more) ≡ items ++ item ∷ [] = take-append-add items (item ∷ more) 1 in
      record {
        few = omega (arith, length-append items (item ∷ more));
        cut = Cuts-along (sym (ap (output s) front ∙ output-push)) (Cuts-after (output s items) (item_text (after s items) item) performed.written cut);
        whole = λ k f. let same : length items ≡ k = omega arith in
            (cut.front, ap (λ x. x ++ cut.front) (ap (output s) (sym (ap (λ n. take n (items ++ item ∷ more)) (sym same) ∙ take-append_seam items (item ∷ more)))));
        state = subst Left (sym (ap (after s) front ∙ states-push session_after (quiet s) items item)) left;
      }

-- items that were performed, and a writer that can't pass on what it took of their output
module _ (s : Session) (items : List Item) where
  output-parts : (k : ℕ) → (more : List ℕ) × (output s items ≡ output s (take k items) ++ more)
  output-parts k =
      let more = texts session_after item_text (states session_after (quiet s) (take k items)) (drop k items) in (
        more,
        ap (output s) (sym (take-append-drop k items)) ∙ ap (λ x. log_text s.desc s.state.log ++ x) (texts-append session_after item_text (quiet s) (take k items) (drop k items))
            ∙ sym (append_assoc (log_text s.desc s.state.log) (texts session_after item_text (quiet s) (take k items)) more),
      )

  pub performs_on : {a b c : Seen} (Left : Session → Type 0) → Performs s items a b Left → Takes b c [] → Performs s items a c Left
  performs_on {a} {b} {c} Left p takes = record { written = subst (Takes a c) (append-nil (output s items)) (Takes-then (output s items) [] p.written takes); left = p.left }

  pub stops_held : {a b c : Seen} (Left : Session → Type 0) (begun : ℕ) → begun ≡ length items → Performs s items a b Left → Cuts b c [] → Stops s items begun a c Left
  stops_held Left begun count p cut =
      let all : take begun items ≡ items = take_all begun items (omega (arith, count)) in
      let held = Cuts-after (output s items) [] p.written cut in
      record {
        few = omega (arith, count);
        cut = Cuts-along (append-nil (output s items) ∙ ap (output s) (sym all)) held;
        whole = λ k e. let parts = output-parts k in (parts.0 ++ cut.front, ap (λ x. x ++ cut.front) parts.1 ∙ append_assoc (output s (take k items)) parts.0 cut.front);
        state = subst (λ x. Left (after s x)) (sym all) p.left;
      }

pub first_stops : (s : Session) (items : List Item) {a b : Seen} (Left : Session → Type 0) → Left (quiet s) → Cuts a b (log_text s.desc s.state.log) → Stops s items 0 a b Left
first_stops s items Left stands p = record { few = omega arith; cut = Cuts-longer (log_text s.desc s.state.log) [] p; whole = λ k e. absurd (omega arith); state = stands }

-- how a list of items stops, said of the script whose items they are, and of the writer that was lent
pub stops_of : (items script : List Item) → items ≡ script → (result : Result (Unit {0}) ℕ) (old new left : Seen) (Given Left : Session → Type 0) → new ≡ left
    → IfErr result (λ begun. (s : Session) → Given s → Stops s items begun old new Left) → IfErr result (λ begun. (s : Session) → Given s → Stops s script begun old left Left)
stops_of items script same result old new left Given Left lent stops =
    subst (λ (x : Seen). IfErr result (λ begun. (s : Session) → Given s → Stops s script begun old x Left)) lent
    (subst (λ (x : List Item). IfErr result (λ begun. (s : Session) → Given s → Stops s x begun old new Left)) same stops)
