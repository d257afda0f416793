-- The hits of a tile, taken one by one.
use Rattle.std.proofs.Common.{◌≡◌, ℕ, suc, ◌+◌, ◌<◌, ◌≤◌, List, [], ◌∷◌, length, get_or, take, drop, arith, ap₂, sym, ◌∙◌, length-take, drop-cons}
use Rattle.std.proofs.lemmas.List.{drop_all, get_or-take}
use Rattle.abuf_raster.specs.declared.region.Hit.{Hit}

-- After the last of the first c hits there are none.
pub none_behind : (hs : List Hit) (a c : ℕ) → c ≤ a → drop a (take c hs) ≡ []
none_behind hs a c h = drop_all a (take c hs) (omega (arith, length-take c hs))

-- Before it there is one, and those after it.
pub next_of : (hs : List Hit) (a c : ℕ) (d : Hit) → a < c → c ≤ length hs → drop a (take c hs) ≡ get_or hs a d ∷ drop (a + 1) (take c hs)
next_of hs a c d h l =
    let k : a < length (take c hs) = omega (arith, length-take c hs) in
    let s : a + 1 ≡ suc a = omega arith in
    drop-cons (take c hs) a d k ∙ ap₂ (λ (x : Hit) (n : ℕ). x ∷ drop n (take c hs)) (get_or-take c hs a d h) (sym s)
