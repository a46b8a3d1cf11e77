use Rattle.std.proofs.Common.{◌≡◌, ℕ, List, ◌++◌, ap, ◌∙◌, subst, append_assoc}
use Rattle.std.specs.Prelude.{codes, OnOk}
use Rattle.planus_cli.specs.Json.{text_json}
use Rattle.planus_cli.proofs.told.put_texts.Goals as goal

one_list : (xs first second third fourth : List ℕ)
    → (((xs ++ first) ++ second) ++ third) ++ fourth ≡ xs ++ (first ++ (second ++ (third ++ fourth)))
one_list xs first second third fourth =
    append_assoc ((xs ++ first) ++ second) third fourth
    ∙ append_assoc (xs ++ first) second (third ++ fourth)
    ∙ append_assoc xs first (second ++ (third ++ fourth))

pub returns : goal.returns
returns c =
    let message = codes ",\"message\":" in
    let advice = codes ",\"advice\":" in
    let told = text_json c.args.message.now in
    let advised = text_json c.args.advice.now in
    let before = c.in_ok-extend_from_slice-2.ensures.items
    ∙ ap (λ (xs : List ℕ). xs ++ advice) (c.in_ok-put_text.ensures
    ∙ ap (λ (xs : List ℕ). xs ++ told) c.in_ok-extend_from_slice.ensures.items) in
    subst (λ (xs : List ℕ). OnOk c.put_text-2.result (c.put_text-2.new.out.items ≡ xs))
    (ap (λ (text : List ℕ). c.extend_from_slice-2.new.self.items ++ text_json text) c.as_bytes.ensures.value
    ∙ ap (λ (xs : List ℕ). xs ++ advised) before
    ∙ one_list c.args.json.now.items message told advice advised)
    c.put_text-2.ensures
