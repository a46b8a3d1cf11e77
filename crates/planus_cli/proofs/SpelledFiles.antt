-- Files that spell their declarations.
use Rattle.std.specs.Prelude.{zero, suc}
use Rattle.std.proofs.Common.{◌≡◌, ℕ, List, [], ◌∷◌, ◌++◌, length, refl, sym, subst, arith, ◌<◌}
use Rattle.std.specs.List.{All}
use Rattle.std.specs.Global.{Vec}
use Rattle.planus_syntax.specs.declared.value.Declaration.{Declaration}
use Rattle.planus_syntax.specs.Values.{SchemaV, declarations_of, schema_pieces}
use Rattle.planus_syntax.proofs.Composed.{spelled_lexes}
use Rattle.planus_resolve.specs.declared.fault.Fault.{Fault}
use Rattle.planus_resolve.specs.declared.fault.ResolveError.{ResolveError}
use Rattle.planus_resolve.specs.declared.fault.ResolveError.TheVariants.{Faults}
use Rattle.planus_resolve.specs.Faults.{AreWithin}
use Rattle.planus_cli.specs.declared.check.File.{File}
use Rattle.planus_cli.specs.SchemaTexts.{HasTokens, IsSpelled}
use Rattle.planus_cli.specs.Checks.{AreSpelled}
use Rattle.planus_cli.specs.Files.{AreRead, IsTextOf}
use Rattle.planus_cli.specs.Loading.{IsSource}
use Rattle.planus_cli.specs.declared.sources.Source.{Source}
use Rattle.std.specs.String.{string_bytes}
use Rattle.std.proofs.lemmas.List.Elements.{All-append}

pub spelled_tokens : (text : List ℕ) (ds : List Declaration) → IsSpelled text ds → HasTokens text
spelled_tokens text ds h = (schema_pieces schema, spelled_lexes text schema h.spelled)
  where
    schema : SchemaV
    schema = record { declarations = declarations_of ds; trailing = h.trailing }

pub spelled_length : (fs : List File) (ds : List (Vec Declaration)) → AreSpelled fs ds → length fs ≡ length ds
spelled_length [] [] h = refl
spelled_length [] (d ∷ ds) h = absurd h
spelled_length (f ∷ fs) [] h = absurd h
spelled_length (f ∷ fs) (d ∷ ds) h = omega (arith, spelled_length fs ds h.1)

pub spelled_all : (fs : List File) (ds : List (Vec Declaration)) → AreSpelled fs ds → All (λ f. HasTokens f.text.items) fs
spelled_all [] [] h k e lt = absurd (omega arith)
spelled_all [] (d ∷ ds) h k e lt = absurd h
spelled_all (f ∷ fs) [] h k e lt = absurd h
spelled_all (f ∷ fs) (d ∷ ds) h zero e lt = spelled_tokens f.text.items d.items h.0
spelled_all (f ∷ fs) (d ∷ ds) h (suc k) e lt = spelled_all fs ds h.1 k e (omega arith)

pub spelled_push : (fs : List File) (ds : List (Vec Declaration)) (f : File) (d : Vec Declaration)
    → AreSpelled fs ds → IsSpelled f.text.items d.items → AreSpelled (fs ++ f ∷ []) (ds ++ d ∷ [])
spelled_push [] [] f d h s = (s, tt)
spelled_push [] (e ∷ ds) f d h s = absurd h
spelled_push (g ∷ fs) [] f d h s = absurd h
spelled_push (g ∷ fs) (e ∷ ds) f d h s = (h.0, spelled_push fs ds f d h.1 s)

-- what is within the declarations is within as many files
pub within_files : (n m : ℕ) (e : ResolveError) (faults : Vec Fault) (xs : List Fault) → m ≡ n → e ≡ Faults faults → xs ≡ faults.items
    → AreWithin n e → All (λ f. f.file < m) xs
within_files n m e faults xs same is value h =
    subst (λ k. All (λ f. f.file < k) xs) (sym same) (subst (All (λ f. f.file < n)) (sym value) (subst (AreWithin n) is h))

pub read_push : (Holds : List ℕ → List ℕ → Type 0) (fs : List File) (ds : List (Vec Declaration)) (f : File) (d : Vec Declaration)
    → AreRead Holds fs ds → IsTextOf Holds (string_bytes f.name) f.text.items → IsSpelled f.text.items d.items
    → AreRead Holds (fs ++ f ∷ []) (ds ++ d ∷ [])
read_push Holds fs ds f d h text spelled = record {
  texts = All-append (λ g. IsTextOf Holds (string_bytes g.name) g.text.items) fs (f ∷ []) h.texts (only text);
  spelled = spelled_push fs ds f d h.spelled spelled;
} where
  only : IsTextOf Holds (string_bytes f.name) f.text.items → All (λ g. IsTextOf Holds (string_bytes g.name) g.text.items) (f ∷ [])
  only text zero e lt = text
  only text (suc k) e lt = absurd (omega arith)

-- the files read before, and one more
pub read_more : (Holds : List ℕ → List ℕ → Type 0) (fs gs : List File) (ds es : List (Vec Declaration)) (name : List ℕ) (s : Source)
    → AreRead Holds fs ds → IsSource Holds name s → gs ≡ fs ++ s.file ∷ [] → es ≡ ds ++ s.declarations ∷ [] → AreRead Holds gs es
read_more Holds fs gs ds es name s h is files declarations =
    subst (λ xs. AreRead Holds xs es) (sym files) (subst (λ xs. AreRead Holds (fs ++ s.file ∷ []) xs) (sym declarations)
    (read_push Holds fs ds s.file s.declarations h
    (subst (λ n. IsTextOf Holds n s.file.text.items) (sym is.named) is.text) is.spelled))
