-- What is told of the source and of the shelf, and what follows for the verdicts on them.
use Rattle.std.proofs.Common.{◌≡◌, ◌+◌, ◌++◌, ◌∷◌, [], ◌≤◌, ℕ, Bool, true, false, List, length, Option, Some, None, option_map, option_and_then, Result, Ok, Err, IfSome, IfErr, refl, sym, ap, ◌∙◌, subst, append-nil, arith}
use Rattle.std.specs.Io.KnownBytes.{Consumes, IsAtEnd}
use Rattle.abuf_io.specs.Causes.{Rose}
use Rattle.abuf_obj.specs.Scene.{libraries}
use Rattle.abuf_obj.specs.declared.scene.Obj.{Obj}
use Rattle.abuf_scene.specs.declared.triangles.Triangle.{Triangle}
use Rattle.abuf_top.specs.Libraries.{Holdings, told_by, first_refusal, contents, asked, one_and}
use Rattle.abuf_top.specs.Prepared.{Loads, StopsAt}
use Rattle.abuf_top.specs.Verdict.{library_verdict, material_verdict, or_refusal, shelf_for}
use Rattle.abuf_top.specs.Fetches.{CallsAtMost}
use Rattle.abuf_top.specs.Stopped.{HasReadCause}
use Rattle.abuf_top.specs.declared.loaded.Loaded.{Loaded}
use Rattle.abuf_top.specs.declared.stop.Refusal.{Refusal}
use Rattle.abuf_top.specs.declared.stop.Stop.{Stop}
use Rattle.abuf_top.specs.declared.stop.Stop.TheVariants as stop

-- more causes of a stop may be named,
pub stops-weaker : {T : Type 0} (line : Result T Refusal) (few more : Type 0) (s : Stop) → (few → more) → StopsAt line few s → StopsAt line more s
stops-weaker line few more stop.ReadFault f h = f h
stops-weaker line few more _ f h = h

-- more causes may be named
pub loads-weaker : (line : Result (List Triangle) Refusal) (few more : Type 0) (r : Result Loaded Stop) → (few → more) → Loads line few r → Loads line more r
loads-weaker line few more (Ok loaded) f h = h
loads-weaker line few more (Err s) f h = stops-weaker line few more s f h

-- also of what is told,
pub told-weaker : (line : Option (Result (List Triangle) Refusal)) (few more : Type 0) (r : Result Loaded Stop) → (few → more)
    → IfSome line (λ l. Loads l few r) → IfSome line (λ l. Loads l more r)
told-weaker None few more r f h = tt
told-weaker (Some line) few more r f h = loads-weaker line few more r f h

pub cause-weaker : (few more : Type 0) (r : Result Loaded Stop) → (few → more) → IfErr r (HasReadCause few) → IfErr r (HasReadCause more)
cause-weaker few more (Ok loaded) f h = tt
cause-weaker few more (Err stop.ReadFault) f h = f h
cause-weaker few more _ f h = h

-- a count that stays at 0 didn't rise
pub still : Rose 0 0 → ⊥
still h = absurd (omega (arith, h))

-- a scene's libraries are read from a shelf that tells, or there are none
pub furnish_told : (obj : Obj) (tells : Bool) (held : Holdings) (rose : Type 0) (r : Result Loaded Stop)
    → (tells ≡ true → Loads (library_verdict obj held) rose r) → (obj.libraries ≡ [] → Loads (material_verdict obj []) ⊥ r)
    → IfSome (option_map (library_verdict obj) (shelf_for obj.libraries (told_by tells held))) (λ line. Loads line rose r)
furnish_told obj tells held rose r told none = go obj.libraries refl tells refl where
  P : List (List ℕ) → Bool → Type 0
  P names t = IfSome (option_map (λ (h : Holdings). or_refusal (first_refusal h names) (material_verdict obj (contents h names))) (shelf_for names (told_by t held))) (λ line. Loads line rose r)

  go : (names : List (List ℕ)) → obj.libraries ≡ names → (t : Bool) → tells ≡ t → P obj.libraries tells
  go [] e t f = subst (λ (ns : List (List ℕ)). P ns tells) (sym e) (loads-weaker (material_verdict obj []) ⊥ rose r (λ h. absurd h) (none e))
  go (name ∷ names) e true f = subst (λ (ns : List (List ℕ)). P ns tells) (sym e) (subst (λ (u : Bool). P (name ∷ names) u) (sym f) (subst (λ (ns : List (List ℕ)). Loads (or_refusal (first_refusal held ns) (material_verdict obj (contents held ns))) rose r) e (told f)))
  go (name ∷ names) e false f = subst (λ (ns : List (List ℕ)). P ns tells) (sym e) (subst (λ (u : Bool). P (name ∷ names) u) (sym f) tt)

-- at least one library is asked for
one_and-some : (r : Option Refusal) (later : ℕ) → one_and r later ≡ 0 → ⊥
one_and-some None later e = absurd (omega arith)
one_and-some (Some refusal) later e = absurd (omega arith)

-- how often a shelf is asked for these libraries, where that is told
pub fetches_told : (names : List (List ℕ)) (tells : Bool) (held : Holdings) (a b c d : ℕ)
    → (tells ≡ true → b ≤ a + asked held names) → (names ≡ [] → (b ≡ a) × (d ≡ c))
    → IfSome (option_map (λ (h : Holdings). asked h names) (shelf_for names (told_by tells held))) (CallsAtMost a b c d)
fetches_told [] tells held a b c d most none = let e = none refl in record { most = omega (arith, e.0); none = λ zero. e }
fetches_told (name ∷ names) true held a b c d most none = record { most = most refl; none = λ zero. absurd (one_and-some _ _ zero) }
fetches_told (name ∷ names) false held a b c d most none = tt

-- all of the source's bytes were read
pub read_told : {X : Type 0} (f : List ℕ → Option X) (Q : X → Type 0) (left new : Option (List ℕ)) (bytes : List ℕ) → Consumes left new bytes → IsAtEnd new → IfSome (f bytes) Q → IfSome (option_and_then f left) Q
read_told f Q None new bytes read end h = tt
read_told f Q (Some scene) None bytes read end h = absurd read
read_told f Q (Some scene) (Some rest) bytes read end h =
    let same : bytes ≡ scene = sym (read ∙ ap (λ (r : List ℕ). bytes ++ r) end ∙ append-nil bytes) in
    subst (λ (s : List ℕ). IfSome (f s) Q) same h

-- and so the libraries that they name
pub most_told : (Q : ℕ → Type 0) (left new : Option (List ℕ)) (bytes : List ℕ) → Consumes left new bytes → IsAtEnd new → Q (length (libraries bytes))
    → IfSome (option_map (λ (b : List ℕ). length (libraries b)) left) Q
most_told Q None new bytes read end h = tt
most_told Q (Some scene) new bytes read end h = read_told (λ b. Some (length (libraries b))) Q (Some scene) new bytes read end h
