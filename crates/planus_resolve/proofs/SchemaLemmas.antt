-- One more declaration.
use Rattle.std.proofs.Common.{◌≡◌, ◌+◌, List, [], ◌∷◌, ◌++◌, length, map, sym, ap, subst, ◌∙◌, append_assoc}
use Rattle.std.proofs.lemmas.List.{map_push, append-nil}
use Rattle.planus_syntax.specs.Values.{names_of}
use Rattle.planus_schema.specs.declared.schema.Body.{Body}
use Rattle.planus_schema.specs.declared.schema.Declared.{Declared}
use Rattle.planus_schema.specs.Distinct.{Each2}
use Rattle.planus_resolve.specs.Names.{HeadV, space_at}
use Rattle.planus_schema.specs.Layouts.{body_in, measure_of_body}
use Rattle.std.specs.Prelude.{Some}
use Rattle.std.proofs.Math.ListN.{length-map}
use Rattle.planus_resolve.specs.WrongStructs.{measures_of}
use Rattle.planus_resolve.specs.Schemas.{IsBody, SaysBody, SayBodies, IsHeadOf, IsAppended, IsDeclared, AreDeclared}
use Rattle.planus_resolve.proofs.StructLemmas.{each2_push}

pub appended : (h : HeadV) (b : Body) (old new : List Declared) (x : Declared) → new ≡ old ++ x ∷ [] → x.name.items ≡ h.name → names_of x.docs.items ≡ h.declaration.docs → x.file ≡ h.file → x.body ≡ b → IsAppended h b old new
appended h b old new x e name docs file body = record {
  last = x;
  added = e;
  head = record { name = name; docs = docs; file = file };
  body = body;
}

-- there are as many sizes as declarations
pub as_many : (ds : List Declared) → length ds ≡ length (measures_of ds)
as_many ds = sym (length-map ds (λ (d : Declared). measure_of_body (Some d.body)))

pub declared_by : (hs : List HeadV) (h : HeadV) (b : Body) (old new : List Declared) → IsAppended h b old new → IsBody b → SaysBody hs (space_at h.space (length old + 1)) (map body_in old) h.declaration.item b → IsDeclared hs h old new
declared_by hs h b old new a sound says = record {
  last = a.last;
  added = a.added;
  head = a.head;
  sound = subst IsBody (sym a.body) sound;
  says = subst (SaysBody hs (space_at h.space (length old + 1)) (map body_in old) h.declaration.item) (sym a.body) says;
}

say_push : (hs : List HeadV) (before : List Body) (some : List HeadV) (bs : List Body) (h : HeadV) (b : Body) → SayBodies hs before some bs → IsBody b → SaysBody hs (space_at h.space (length (before ++ bs) + 1)) (before ++ bs) h.declaration.item b → SayBodies hs before (some ++ h ∷ []) (bs ++ b ∷ [])
say_push hs before [] [] h b x sound says = (sound, subst (λ bs. SaysBody hs (space_at h.space (length bs + 1)) bs h.declaration.item b) (append-nil before) says, tt)
say_push hs before [] (c ∷ bs) h b x sound says = absurd x
say_push hs before (g ∷ some) [] h b x sound says = absurd x
say_push hs before (g ∷ some) (c ∷ bs) h b x sound says =
    (x.0, x.1, say_push hs (before ++ c ∷ []) some bs h b x.2 sound (subst (λ cs. SaysBody hs (space_at h.space (length cs + 1)) cs h.declaration.item b) (sym (append_assoc before (c ∷ []) bs)) says))

pub declared_push : (hs some : List HeadV) (old new : List Declared) (h : HeadV) → AreDeclared hs some old → IsDeclared hs h old new → AreDeclared hs (some ++ h ∷ []) new
declared_push hs some old new h a d =
    let e : map body_in new ≡ map body_in old ++ d.last.body ∷ [] = ap (map body_in) d.added ∙ map_push body_in old d.last in
    let says = subst (λ n. SaysBody hs (space_at h.space (n + 1)) (map body_in old) h.declaration.item d.last.body) (sym (length-map old body_in)) d.says in
    record {
      heads = subst (λ ds. Each2 IsHeadOf (some ++ h ∷ []) ds) (sym d.added) (each2_push IsHeadOf some old h d.last a.heads d.head);
      bodies = subst (λ bs. SayBodies hs [] (some ++ h ∷ []) bs) (sym e) (say_push hs [] some (map body_in old) h d.last.body a.bodies d.sound says);
    }
