use Rattle.std.proofs.Common.{◌≡◌, List, [], ◌∷◌, length, get_or, refl, sym, arith, rules}
use Rattle.tv_words.specs.declared.word.Word.{Word}
use Rattle.tv_declarations.proofs.node.window.Goals as goal

seven : (fs : List Word) (m x y w h k t : Word) → length fs ≡ 7 → m ≡ get_or fs 0 m → x ≡ get_or fs 1 x → y ≡ get_or fs 2 y → w ≡ get_or fs 3 w → h ≡ get_or fs 4 h → k ≡ get_or fs 5 k → t ≡ get_or fs 6 t → m ∷ x ∷ y ∷ w ∷ h ∷ k ∷ t ∷ [] ≡ fs
seven [] m x y w h k t n em ex ey ew eh ek et = absurd (omega (arith, n))
seven (a ∷ []) m x y w h k t n em ex ey ew eh ek et = absurd (omega (arith, n))
seven (a ∷ b ∷ []) m x y w h k t n em ex ey ew eh ek et = absurd (omega (arith, n))
seven (a ∷ b ∷ c ∷ []) m x y w h k t n em ex ey ew eh ek et = absurd (omega (arith, n))
seven (a ∷ b ∷ c ∷ d ∷ []) m x y w h k t n em ex ey ew eh ek et = absurd (omega (arith, n))
seven (a ∷ b ∷ c ∷ d ∷ e ∷ []) m x y w h k t n em ex ey ew eh ek et = absurd (omega (arith, n))
seven (a ∷ b ∷ c ∷ d ∷ e ∷ f ∷ []) m x y w h k t n em ex ey ew eh ek et = absurd (omega (arith, n))
seven (a ∷ b ∷ c ∷ d ∷ e ∷ f ∷ g ∷ []) m x y w h k t n em ex ey ew eh ek et = rw (em, ex, ey, ew, eh, ek, et) refl
seven (a ∷ b ∷ c ∷ d ∷ e ∷ f ∷ g ∷ i ∷ js) m x y w h k t n em ex ey ew eh ek et = absurd (omega (arith, n))

pub returns : goal.returns
returns c =
    let fields : c.name-item.result ∷ c.x-item.result ∷ c.y-item.result ∷ c.w-item.result ∷ c.h-item.result ∷ c.number-item.result ∷ c.title-item.result ∷ [] ≡ c.args.fields.now = seven c.args.fields.now _ _ _ _ _ _ _ (omega (arith, c.in-len7.len_at_least, c.in-len7.len_below)) c.name-item.is c.x-item.is c.y-item.is c.w-item.is c.h-item.is c.number-item.is c.title-item.is in
    rw (sym fields) (search rules)
