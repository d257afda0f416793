-- One library more.
use Rattle.std.proofs.Common.{◌≡◌, ◌++◌, ◌∷◌, [], ℕ, List, map, length, flat_map, None, refl, sym, ap, ◌∙◌, subst, append_assoc, append-nil, arith}
use Rattle.std.specs.List.{zip}
use Rattle.std.proofs.lemmas.List.{reverse-append}
use Rattle.std.proofs.lemmas.List.Sums.{fold-append}
use Rattle.std.proofs.lemmas.List.Concat.{flat_map-append}
use Rattle.abuf_text.specs.Lines.{lines}
use Rattle.abuf_text.specs.Names.{with_name, with_names}
use Rattle.abuf_mtl.specs.Fault.{names_on, names_of, library_fault, fault_from, TellsFirst}
use Rattle.abuf_mtl.specs.Material.{material, search_libraries, search_library, first_of}
use Rattle.abuf_mtl.specs.Reading.{ReadsAll}
use Rattle.abuf_mtl.specs.StandsFor.{StandsFor, StandForSome, IsSound}
use Rattle.abuf_num.specs.declared.plain.Paint.{Paint}
use Rattle.abuf_mtl.specs.declared.fault.MtlFault.{MtlFault}
use Rattle.abuf_mtl.specs.declared.reader.MtlReader.{MtlReader}
use Rattle.abuf_mtl.proofs.Paints.{lookup-zip}

-- the names beside the paints are the names
keys-zip : (names : List (List ℕ)) (paints : List Paint) → length paints ≡ length names → map (λ pair. pair.0) (zip names paints) ≡ names
keys-zip [] paints same = refl
keys-zip (n ∷ names) [] same = absurd (omega arith)
keys-zip (n ∷ names) (x ∷ paints) same = ap (λ (ns : List (List ℕ)). n ∷ ns) (keys-zip names paints (omega arith))

-- a library without a fault after others without one
sound-push : (earlier libraries : List (List ℕ)) (library : List ℕ) → IsSound earlier libraries → library_fault (earlier ++ libraries) library ≡ None → IsSound earlier (libraries ++ library ∷ [])
sound-push earlier [] library sound none = (subst (λ (ls : List (List ℕ)). library_fault ls library ≡ None) (append-nil earlier) none, tt)
sound-push earlier (first ∷ later) library sound none =
    (sound.0, sound-push (earlier ++ first ∷ []) later library sound.1 (subst (λ (ls : List (List ℕ)). library_fault ls library ≡ None) (sym (append_assoc earlier (first ∷ []) later)) none))

-- its names come after theirs
names_of-more : (libraries : List (List ℕ)) (library : List ℕ) → names_of (libraries ++ library ∷ []) ≡ with_names (names_of libraries) (names_on (lines library))
names_of-more libraries library =
    let on : List ℕ → List (List ℕ) = λ library. names_on (lines library) in
    ap (with_names []) (flat_map-append on libraries (library ∷ []) ∙ ap (λ (ns : List (List ℕ)). flat_map on libraries ++ ns) (append-nil (on library)))
    ∙ fold-append with_name [] (flat_map on libraries) (on library)

-- its materials come before theirs in the search
material-more : (libraries : List (List ℕ)) (library n : List ℕ) → material (libraries ++ library ∷ []) n ≡ first_of (search_library n library) (material libraries n)
material-more libraries library n = ap (search_libraries n) (reverse-append libraries (library ∷ []))

module _ (libraries : List (List ℕ)) (old : MtlReader) (same : length old.paints.items ≡ length old.names) (stands : StandsFor libraries (zip old.names old.paints.items)) where
  -- the reader begins with the names of the libraries
  names_same : old.names ≡ names_of libraries
  names_same = sym (keys-zip old.names old.paints.items same) ∙ stands.names

  -- so the first fault that it tells is the library's
  pub fault-first : (library : List ℕ) (e : MtlFault) → TellsFirst (fault_from old.names [] (lines library)) e → TellsFirst (library_fault libraries library) e
  fault-first library e h = subst (λ (ns : List (List ℕ)). TellsFirst (fault_from ns [] (lines library)) e) names_same h

  -- and where it tells none, the library has none
  pub no-fault : (library : List ℕ) → fault_from old.names [] (lines library) ≡ None → library_fault libraries library ≡ None
  no-fault library h = subst (λ (ns : List (List ℕ)). fault_from ns [] (lines library) ≡ None) names_same h

  -- where it takes all lines, the materials stand for one library more
  pub stands-more : (library : List ℕ) (new : MtlReader) → length new.paints.items ≡ length new.names → ReadsAll (lines library) old new → StandsFor (libraries ++ library ∷ []) (zip new.names new.paints.items)
  stands-more library new longer reads = record {
    sound = sound-push [] libraries library stands.sound (subst (λ (ns : List (List ℕ)). fault_from ns [] (lines library) ≡ None) names_same reads.sound);
    names = keys-zip new.names new.paints.items longer ∙ reads.names ∙ ap (λ (ns : List (List ℕ)). with_names ns (names_on (lines library))) names_same ∙ sym (names_of-more libraries library);
    paints = λ n.
        lookup-zip n new.names new.paints.items longer ∙ reads.paints n
        ∙ ap (first_of (search_library n library)) (sym (lookup-zip n old.names old.paints.items same) ∙ stands.paints n) ∙ sym (material-more libraries library n);
  }

-- Materials that stand for nothing stand for no library,
pub none-stand : StandForSome []
unfolding StandForSome
none-stand = ([], record { sound = tt; names = refl; paints = λ name. refl })

-- and where one library more is read, there is a longer list.
pub some-more : (old : MtlReader) → length old.paints.items ≡ length old.names → StandForSome (zip old.names old.paints.items)
    → (library : List ℕ) (new : MtlReader) → length new.paints.items ≡ length new.names → ReadsAll (lines library) old new → StandForSome (zip new.names new.paints.items)
unfolding StandForSome
some-more old same some library new longer reads = (some.0 ++ library ∷ [], stands-more some.0 old same some.1 library new longer reads)
