-- What has been read of the lines of a library so far.
use Rattle.std.proofs.Common.{◌≡◌, ◌+◌, ◌++◌, ◌∷◌, [], ℕ, Bool, true, List, map, reverse, length, Option, None, Some, Bor, option_map, is_some, nat_lt, refl, sym, ap, ◌∙◌, subst, append_assoc, append-nil, length-append, arith}
use Rattle.std.proofs.lemmas.Bool.Decides.{nat_tests}
use Rattle.std.proofs.lemmas.List.{map-append, reverse-append}
use Rattle.std.proofs.lemmas.List.Sums.{fold-append}
use Rattle.std.proofs.lemmas.List.Concat.{flat_map-append}
use Rattle.abuf_text.specs.Names.{with_name, with_names}
use Rattle.abuf_text.specs.Statement.{statement, arguments}
use Rattle.abuf_text.specs.Rest.{rest}
use Rattle.abuf_mtl.specs.Said.{said, said_by, said_colour, said_alpha, keyword_of, colour_of, alpha_of}
use Rattle.abuf_mtl.specs.Fault.{names_on, names_in, names_by, is_open, why, fault_from, TellsWhy, TellsFirst}
use Rattle.abuf_mtl.specs.Material.{first_of, search_from}
use Rattle.abuf_mtl.specs.Reading.{look, current, Says, TakesLine, ReadsAll}
use Rattle.abuf_mtl.specs.declared.keyword.Keyword.{Keyword}
use Rattle.abuf_mtl.specs.declared.keyword.Keyword.TheVariants as keyword
use Rattle.abuf_mtl.specs.declared.fault.MtlFault.{MtlFault}
use Rattle.abuf_mtl.specs.declared.fault.MtlFault.TheVariants.{Line, Memory}
use Rattle.abuf_mtl.specs.declared.reader.MtlReader.{MtlReader}
use Rattle.abuf_mtl.proofs.Searching.{SaidSo, said_more}

abbrev pub texts : List (Bor (List ℕ)) → List (List ℕ)
texts lines = map (λ line. line.now) lines

-- `before` was read, `after` follows, and together they are `all`
pub record HasRead (start : MtlReader) (before after all : List (List ℕ)) (number : ℕ) (r : MtlReader) : Type 0 where
  pub together : before ++ after ≡ all
  pub count : number ≡ length before
  pub fault : fault_from start.names before after ≡ fault_from start.names [] all
  pub names : r.names ≡ with_names start.names (names_on before)
  pub begun : is_some r.begun ≡ is_open before
  pub so : SaidSo (look start) (look r) (current r) (reverse (map said before))

-- at the start of a library nothing has been read
pub started : (start : MtlReader) (all : List (List ℕ)) → start.begun ≡ None → HasRead start [] all all 0 start
started start all closed = record {
  together = refl;
  count = refl;
  fault = refl;
  names = refl;
  begun = ap is_some closed;
  so = record { each = λ n. refl; open_name = ap (option_map _) closed };
}

-- whether a material is open after a line of that kind
abbrev opened : Bool → Keyword → Bool
opened begun keyword.Material = true
opened begun keyword.Colour = begun
opened begun keyword.Alpha = begun
opened begun keyword.Other = begun

-- one line more gives its name after those of the lines before
names_on-more : (before : List (List ℕ)) (line : List ℕ) → names_on (before ++ line ∷ []) ≡ names_on before ++ names_in line
names_on-more before line = flat_map-append names_in before (line ∷ []) ∙ ap (λ (ns : List (List ℕ)). names_on before ++ ns) (append-nil (names_in line))

-- a list to which something was added isn't empty
some_last : (names : List (List ℕ)) (text : List ℕ) → nat_lt 0 (length (names ++ text ∷ [])) ≡ true
some_last names text = let h = length-append names (text ∷ []) in grind (arith, nat_tests)

-- whether a material is open after a line, by the line's kind
is_open-by : (names : List (List ℕ)) (word : Keyword) (text : List ℕ) → nat_lt 0 (length (names ++ names_by word text)) ≡ opened (nat_lt 0 (length names)) word
is_open-by names keyword.Material text = some_last names text
is_open-by names keyword.Colour text = ap (λ (ns : List (List ℕ)). nat_lt 0 (length ns)) (append-nil names)
is_open-by names keyword.Alpha text = ap (λ (ns : List (List ℕ)). nat_lt 0 (length ns)) (append-nil names)
is_open-by names keyword.Other text = ap (λ (ns : List (List ℕ)). nat_lt 0 (length ns)) (append-nil names)

-- the same by the line itself
is_open-more : (before : List (List ℕ)) (line : List ℕ) → is_open (before ++ line ∷ []) ≡ opened (is_open before) (keyword_of (statement line))
is_open-more before line =
    ap (λ (ns : List (List ℕ)). nat_lt 0 (length ns)) (names_on-more before line) ∙ is_open-by (names_on before) (keyword_of (statement line)) (rest line)

-- where something is found at an index, there is an index
some_index : (f : ℕ → List ℕ) (index : Option ℕ) (n : List ℕ) → option_map f index ≡ Some n → is_some index ≡ true
some_index f None n is = absurd (let e : None ≡ Some n = is in cc)
some_index f (Some k) n is = refl

-- a `Kd` line leaves a material open exactly where one was
begun-colour : (old new : MtlReader) (c : Option (List ℕ)) → Says old new (said_colour c) → is_some new.begun ≡ is_some old.begun
begun-colour old new None says = ap (λ (r : MtlReader). is_some r.begun) says
begun-colour old new (Some c) says = some_index _ new.begun says.n says.after ∙ sym (some_index _ old.begun says.n says.before)

-- and so does a `d` line
begun-alpha : (old new : MtlReader) (a : Option ℕ) → Says old new (said_alpha a) → is_some new.begun ≡ is_some old.begun
begun-alpha old new None says = ap (λ (r : MtlReader). is_some r.begun) says
begun-alpha old new (Some a) says = some_index _ new.begun says.n says.after ∙ sym (some_index _ old.begun says.n says.before)

-- a line of each kind leaves a material open as its kind says
begun-by : (old new : MtlReader) (word : Keyword) (values : List (List ℕ)) (text : List ℕ) → Says old new (said_by word values text) → is_some new.begun ≡ opened (is_some old.begun) word
begun-by old new keyword.Material values text says = some_index _ new.begun text says.1
begun-by old new keyword.Colour values text says = begun-colour old new (colour_of values) says
begun-by old new keyword.Alpha values text says = begun-alpha old new (alpha_of values) says
begun-by old new keyword.Other values text says = ap (λ (r : MtlReader). is_some r.begun) says

module _ (start : MtlReader) (before after all : List (List ℕ)) (number : ℕ) (old : MtlReader) (line : List ℕ) (read : HasRead start before (line ∷ after) all number old) where
  -- what is wrong with the next line is the same by the reader and by the lines before
  here : why old.names (is_some old.begun) line ≡ why (with_names start.names (names_on before)) (is_open before) line
  here = ap (λ (ns : List (List ℕ)). why ns (is_some old.begun) line) read.names ∙ ap (λ b. why (with_names start.names (names_on before)) b line) read.begun

  -- a line that is refused is the first with a fault
  pub read-fault : (e : MtlFault) → TellsWhy (number + 1) (why old.names (is_some old.begun) line) e → TellsFirst (fault_from start.names [] all) e
  read-fault Memory h = tt
  read-fault (Line n cause) h =
      let is = sym here ∙ h.1 in
      sym read.fault ∙ rw is (rw (← read.count) (rw h.0 refl))

  -- a line that is taken is one line more that has been read
  pub read-more : (new : MtlReader) → TakesLine line old new → HasRead start (before ++ line ∷ []) after all (number + 1) new
  read-more new takes = record {
    together = append_assoc before (line ∷ []) after ∙ read.together;
    count = omega (arith, read.count, length-append before (line ∷ []));
    fault = (let is = sym here ∙ takes.sound in rw is at read.fault);
    names =
        takes.names ∙ ap (λ (ns : List (List ℕ)). with_names ns (names_in line)) read.names
        ∙ sym (fold-append with_name start.names (names_on before) (names_in line)) ∙ ap (with_names start.names) (sym (names_on-more before line));
    begun = begun-by old new (keyword_of (statement line)) (arguments line) (rest line) takes.says ∙ ap (λ b. opened b (keyword_of (statement line))) read.begun ∙ sym (is_open-more before line);
    so =
        let longer : reverse (map said (before ++ line ∷ [])) ≡ said line ∷ reverse (map said before) = ap reverse (map-append said before (line ∷ [])) ∙ reverse-append (map said before) (said line ∷ []) in
        subst (SaidSo (look start) (look new) (current new)) (sym longer) (said_more (look start) old new (reverse (map said before)) read.so (said line) takes.says);
  }

-- once no line follows, all have been read
pub read-all : (start : MtlReader) (before all : List (List ℕ)) (number : ℕ) (r : MtlReader) → HasRead start before [] all number r → ReadsAll all start r
read-all start before all number r read =
    let same : before ≡ all = sym (append-nil before) ∙ read.together in
    record {
      sound = sym read.fault;
      names = read.names ∙ ap (λ (ls : List (List ℕ)). with_names start.names (names_on ls)) same;
      paints = λ n. subst (λ (ls : List (List ℕ)). look r n ≡ first_of (search_from n None None (reverse (map said ls))) (look start n)) same (read.so.each n);
    }
