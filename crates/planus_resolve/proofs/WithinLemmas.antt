-- Each fault is in one of the files.
use Rattle.std.proofs.Common.{ℕ, ◌+◌, ◌<◌, ◌≤◌, List, [], ◌∷◌, ◌++◌, length, map, arith}
use Rattle.std.specs.Prelude.{Option, Some, None}
use Rattle.std.specs.List.{All}
use Rattle.std.specs.Global.{Vec}
use Rattle.std.proofs.lemmas.List.Elements.{All-nil, All-cons, All-head, All-tail, All-append, All-take}
use Rattle.std.proofs.lemmas.List.Sorted.{All-permutation}
use Rattle.planus_syntax.specs.Values.{Name, PathV, DeclarationV, declaration_of, item_of, declarations_of}
use Rattle.planus_syntax.specs.declared.value.Declaration.{Declaration}
use Rattle.planus_schema.specs.declared.measure.Measure.{Measure}
use Rattle.planus_resolve.specs.declared.fault.Fault.{Fault}
use Rattle.planus_resolve.specs.declared.fault.ResolveError.{ResolveError}
use Rattle.planus_resolve.specs.declared.fault.ResolveError.TheVariants as error
use Rattle.planus_resolve.specs.Names.{HeadV, space_at, begun_after, begun_in, named_head, own_name, words_in, space_after, heads_of}
use Rattle.planus_resolve.specs.Wrong.{Broken}
use Rattle.planus_resolve.specs.WrongServices.{known_attributes}
use Rattle.planus_resolve.specs.Uses.{taken_otherwise}
use Rattle.planus_resolve.proofs.UseLemmas.{taken_within}
use Rattle.planus_resolve.specs.Faults.{Placed, fault_in, name_fault, name_faults, body_fault, body_faults, measure_placed, statement_faults, wrong_said, file_faults, placed_head, placed_at, placed_in, placed_from, first_twenty, faults_found, IsExact, AreWithin}

abbrev Within : ℕ → Fault → Type 0
Within n f = f.file < n

abbrev Begun : ℕ → Placed → Type 0
Begun n p = p.head.file < n

one : (n file : ℕ) (o : Option Broken) → file < n → All (Within n) (fault_in file o)
one n file None h = All-nil (Within n)
one n file (Some b) h = All-cons (Within n) _ [] h (All-nil (Within n))

names : (n : ℕ) (hs : List HeadV) (i : ℕ) (ps : List Placed) → All (Begun n) ps → All (Within n) (name_faults hs i ps)
names n hs i [] a = All-nil (Within n)
names n hs i (p ∷ ps) a =
    All-append (Within n) (name_fault hs i p) (name_faults hs (i + 1) ps) (one n p.head.file _ (All-head (Begun n) p ps a)) (names n hs (i + 1) ps (All-tail (Begun n) p ps a))

bodies : (n : ℕ) (hs : List HeadV) (ms : List (Option Measure)) (ps : List Placed) → All (Begun n) ps → All (Within n) (body_faults hs ms ps)
bodies n hs ms [] a = All-nil (Within n)
bodies n hs ms (p ∷ ps) a =
    All-append (Within n) (body_fault hs ms p) (body_faults hs (ms ++ measure_placed hs ms p ∷ []) ps) (one n p.head.file _ (All-head (Begun n) p ps a)) (bodies n hs (ms ++ measure_placed hs ms p ∷ []) ps (All-tail (Begun n) p ps a))

statements : (n : ℕ) (hs : List HeadV) (known : List Name) (file b : ℕ) (space : Option PathV) (ds : List Declaration) → file < n → All (Within n) (statement_faults hs known file b space ds)
statements n hs known file b space [] h = All-nil (Within n)
statements n hs known file b space (d ∷ ds) h =
    let c = begun_after b (item_of d.item) in
    All-append (Within n) (fault_in file (wrong_said hs (space_at (words_in space) b) known d)) (statement_faults hs known file c (space_after space (item_of d.item)) ds) (one n file _ h) (statements n hs known file c (space_after space (item_of d.item)) ds h)

files_within : (n : ℕ) (hs : List HeadV) (known : List Name) (k b : ℕ) (fs : List (Vec Declaration)) → k + length fs ≤ n → All (Within n) (file_faults hs known k b fs)
files_within n hs known k b [] h = All-nil (Within n)
files_within n hs known k b (f ∷ fs) h =
    let c = begun_in b (declarations_of f.items) in
    All-append (Within n) (statement_faults hs known k b None f.items) (file_faults hs known (k + 1) c fs) (statements n hs known k b None f.items (omega (arith, h))) (files_within n hs known (k + 1) c fs (omega (arith, h)))

head_begun : (n file : ℕ) (space : List Name) (v : DeclarationV) (d : Declaration) (o : Option Name) → file < n → All (Begun n) (placed_head d (named_head file space v o))
head_begun n file space v d None h = All-nil (Begun n)
head_begun n file space v d (Some w) h = All-cons (Begun n) _ [] h (All-nil (Begun n))

placed_begun : (n file : ℕ) (space : Option PathV) (ds : List Declaration) → file < n → All (Begun n) (placed_in file space ds)
placed_begun n file space [] h = All-nil (Begun n)
placed_begun n file space (d ∷ ds) h =
    All-append (Begun n) (placed_at file space d) (placed_in file (space_after space (item_of d.item)) ds) (head_begun n file (words_in space) (declaration_of d) d (own_name (item_of d.item)) h) (placed_begun n file (space_after space (item_of d.item)) ds h)

all_begun : (n k : ℕ) (fs : List (Vec Declaration)) → k + length fs ≤ n → All (Begun n) (placed_from k fs)
all_begun n k [] h = All-nil (Begun n)
all_begun n k (f ∷ fs) h =
    All-append (Begun n) (placed_in k None f.items) (placed_from (k + 1) fs) (placed_begun n k None f.items (omega (arith, h))) (all_begun n (k + 1) fs (omega (arith, h)))

found_within : (files : List (Vec Declaration)) → All (Within (length files)) (faults_found files)
unfolding first_twenty
found_within files =
    let n = length files in
    let hs = heads_of (map (λ f. declarations_of f.items) files) in
    let ps = all_begun n 0 files (omega arith) in
    let said = file_faults hs (known_attributes files) 0 0 files in
    All-take (Within n) 20 _ (All-append (Within n) (name_faults hs 0 (placed_from 0 files)) (body_faults hs [] (placed_from 0 files) ++ (said ++ taken_otherwise hs files)) (names n hs 0 (placed_from 0 files) ps)
    (All-append (Within n) (body_faults hs [] (placed_from 0 files)) (said ++ taken_otherwise hs files) (bodies n hs [] (placed_from 0 files) ps)
    (All-append (Within n) said (taken_otherwise hs files) (files_within n hs (known_attributes files) 0 0 files (omega arith)) (taken_within n hs files (omega arith)))))

pub exact_within : (files : List (Vec Declaration)) (r : ResolveError) → IsExact files r → AreWithin (length files) r
exact_within files error.OutOfMemory e = tt
exact_within files (error.Faults v) e = All-permutation (Within (length files)) (faults_found files) v.items e.same (found_within files)
