-- However values are spelled, they are read.
use Rattle.std.proofs.Common.{◌≡◌, ℕ, zero, suc, ◌<◌, ◌≤◌, ◌+◌, ◌-◌, List, [], ◌∷◌, ◌++◌, length, true, false, refl, sym, ap, ◌∙◌, append_assoc, append-nil, arith, Ok, Some, inl, inr, ◌⊎◌}
use Rattle.std.specs.Prelude.{◌==◌}
use Rattle.planus_json_syntax.specs.declared.fault_kind.FaultKind.{FaultKind}
use Rattle.planus_json_syntax.specs.declared.fault_kind.FaultKind.TheVariants as fault
use Rattle.planus_json_syntax.specs.Tokens.{◌>>=◌, mark, word, text, Front, next}
use Rattle.planus_json_syntax.specs.Values as values
use Rattle.planus_json_syntax.specs.Values.{ValueV, list, object, Items, no_items, item, Members, no_members, member, JsonV, MemberV, items_of, members_of}
use Rattle.planus_json_syntax.specs.Reading.{Item, Reads, is_mark_of, after_mark, end_at, key_of, items_from, values_from, value_at, member_of, read, after_order_mark}
use Rattle.planus_json_syntax.specs.Spelling.{MarkAt, PlacedAt, KeyAt, ValueAt, ItemsAt, MembersAt, ValuesAt, depth, items_depth, members_depth, NestTo, Spells}
use Rattle.planus_json_syntax.proofs.Nested.{list_in, object_in}
use Rattle.planus_json_syntax.proofs.SpelledTokens.{token_read, end_read, token_shorter}

-- ---- steps

module _ {A : Type 0} (item : Item A) (close : ℕ) (missing kind : FaultKind) (n : ℕ) (found : List A) (bytes : List ℕ) (front : Front) (here : next bytes ≡ Ok (Some front)) where
  abbrev All : Reads (List A)
  All = items_from item close missing kind (suc n) found bytes

  closes_now : is_mark_of close front.token ≡ true → All ≡ Ok (found, front.rest)
  unfolding items_from
  closes_now e = rw (here, e) refl

  module _ (goes : is_mark_of close front.token ≡ false) (x : A) (after rest : List ℕ) (reads : item front ≡ Ok (x, after)) where
    last_item : end_at close kind after ≡ Ok (true, rest) → All ≡ Ok (found ++ x ∷ [], rest)
    unfolding items_from
    last_item e = rw (here, goes, reads, e) refl

    next_item : end_at close kind after ≡ Ok (false, rest) → All ≡ items_from item close missing kind n (found ++ x ∷ []) rest
    unfolding items_from
    next_item e = rw (here, goes, reads, e) refl

mark_read : (m : ℕ) (kind : FaultKind) (bytes rest : List ℕ) → (m == m) ≡ true → MarkAt m bytes rest → after_mark m kind bytes ≡ Ok rest
mark_read m kind bytes rest same x = rw (token_read bytes _ x.1, same) refl

end_closes : (close : ℕ) (kind : FaultKind) (bytes rest : List ℕ) → (close == close) ≡ true → MarkAt close bytes rest → end_at close kind bytes ≡ Ok (true, rest)
end_closes close kind bytes rest same x = rw (token_read bytes _ x.1, same) refl

end_goes : (close : ℕ) (kind : FaultKind) (bytes rest : List ℕ) → (44 == close) ≡ false → MarkAt 44 bytes rest → end_at close kind bytes ≡ Ok (false, rest)
end_goes close kind bytes rest other x = rw (token_read bytes _ x.1, other) refl

-- ---- values

abbrev items_list : Items → List JsonV
items_list no_items = []
items_list (item at value js) = record { at = at; value = value } ∷ items_list js

abbrev members_list : Members → List MemberV
members_list no_members = []
members_list (member at key place value ms) = record { at = at; key = key; value = record { at = place; value = value } } ∷ members_list ms

pub items_back : (js : Items) → items_of (items_list js) ≡ js
items_back no_items = refl
items_back (item at value js) = ap (item at value) (items_back js)

pub members_back : (ms : Members) → members_of (members_list ms) ≡ ms
members_back no_members = refl
members_back (member at key place value ms) = ap (member at key place value) (members_back ms)

-- what these bytes begin with is read as this
record IsRead {A : Type 0} (reader : Item A) (close : ℕ) (x : A) (bytes rest : List ℕ) : Type 0 where
  front : Front
  here : next bytes ≡ Ok (Some front)
  reads : reader front ≡ Ok (x, rest)
  goes : is_mark_of close front.token ≡ false
  shorter : length rest < length bytes

place_is : (at left len : ℕ) → at + left ≡ len → len - left ≡ at
place_is at left len e = omega arith

mark_shorter : (m : ℕ) (bytes rest : List ℕ) → MarkAt m bytes rest → length rest < length bytes
mark_shorter m bytes rest x = let s = token_shorter bytes _ x.1 in omega (arith, s.0, s.1)

module _ (len : ℕ) where
  abbrev Value : ℕ → ℕ → ValueV → List ℕ → List ℕ → Type 0
  Value d at v bytes rest = IsRead (value_at len d) 93 (record { at = at; value = v }) bytes rest

  word_read : (d at : ℕ) (w : List ℕ) (bytes rest : List ℕ) → PlacedAt len at (word w) bytes rest → Value d at (values.word w) bytes rest
  word_read d at w bytes rest x = let s = token_shorter bytes _ x.1 in record {
    front = record { token = word w; left = x.0; rest = rest };
    here = token_read bytes _ x.1;
    reads = ap (λ a. Ok (record { at = a; value = values.word w }, rest)) (place_is at x.0 len x.2);
    goes = refl;
    shorter = omega (arith, s.0, s.1);
  }

  text_read : (d at : ℕ) (w : List ℕ) (bytes rest : List ℕ) → PlacedAt len at (text w) bytes rest → Value d at (values.text w) bytes rest
  text_read d at w bytes rest x = let s = token_shorter bytes _ x.1 in record {
    front = record { token = text w; left = x.0; rest = rest };
    here = token_read bytes _ x.1;
    reads = ap (λ a. Ok (record { at = a; value = values.text w }, rest)) (place_is at x.0 len x.2);
    goes = refl;
    shorter = omega (arith, s.0, s.1);
  }

  abbrev Items' : ℕ → Items → List ℕ → List ℕ → Type 0
  Items' d js bytes rest = (n : ℕ) (found : List JsonV) → length bytes < n
      → items_from (value_at len d) 93 fault.Value fault.ListEnd n found bytes ≡ Ok (found ++ items_list js, rest)

  abbrev Members' : ℕ → Members → List ℕ → List ℕ → Type 0
  Members' d ms bytes rest = (n : ℕ) (found : List MemberV) → length bytes < n
      → items_from (member_of len (value_at len d)) 125 fault.Key fault.ObjectEnd n found bytes ≡ Ok (found ++ members_list ms, rest)

  list_read : (d at : ℕ) (js : Items) (bytes inner rest : List ℕ) → PlacedAt len at (mark 91) bytes inner → Items' d js inner rest → length rest < length inner → Value (suc d) at (list js) bytes rest
  list_read d at js bytes inner rest x items fewer =
      let s = token_shorter bytes _ x.1 in
      record {
        front = record { token = mark 91; left = x.0; rest = inner };
        here = token_read bytes _ x.1;
        reads = ap (λ r. r >>= λ y. Ok (record { at = len - x.0; value = y.0 }, y.1)) (list_in len d x.0 inner 91 refl)
            ∙ rw (items (suc (length inner)) [] (omega arith), items_back js) (ap (λ a. Ok (record { at = a; value = list js }, rest)) (place_is at x.0 len x.2));
        goes = refl;
        shorter = omega (arith, s.0, s.1, fewer);
      }

  object_read : (d at : ℕ) (ms : Members) (bytes inner rest : List ℕ) → PlacedAt len at (mark 123) bytes inner → Members' d ms inner rest → length rest < length inner → Value (suc d) at (object ms) bytes rest
  object_read d at ms bytes inner rest x members fewer =
      let s = token_shorter bytes _ x.1 in
      record {
        front = record { token = mark 123; left = x.0; rest = inner };
        here = token_read bytes _ x.1;
        reads = ap (λ r. r >>= λ y. Ok (record { at = len - x.0; value = y.0 }, y.1)) (object_in len d x.0 inner 123 refl)
            ∙ rw (members (suc (length inner)) [] (omega arith), members_back ms) (ap (λ a. Ok (record { at = a; value = object ms }, rest)) (place_is at x.0 len x.2));
        goes = refl;
        shorter = omega (arith, s.0, s.1, fewer);
      }

  -- ---- members

  abbrev Keyed : ℕ → List ℕ → List ℕ → List ℕ → Type 0
  Keyed at key bytes colon = (front : Front) × (next bytes ≡ Ok (Some front)) × (key_of front ≡ Ok key) × (is_mark_of 125 front.token ≡ false)
      × (at ≡ len - front.left) × (front.rest ≡ colon) × (length colon < length bytes)

  key_read : (at : ℕ) (key bytes colon : List ℕ) → KeyAt len at key bytes colon → Keyed at key bytes colon
  key_read at key bytes colon (inl x) =
      let s = token_shorter bytes _ x.1 in
      (record { token = text key; left = x.0; rest = colon }, token_read bytes _ x.1, refl, refl, sym (place_is at x.0 len x.2), refl, omega (arith, s.0, s.1))
  key_read at key bytes colon (inr y) =
      let x = y.1 in
      let s = token_shorter bytes _ x.1 in
      (record { token = word key; left = x.0; rest = colon }, token_read bytes _ x.1, rw y.0 refl, refl, sym (place_is at x.0 len x.2), refl, omega (arith, s.0, s.1))

  member_read : (d at : ℕ) (key : List ℕ) (place : ℕ) (v : ValueV) (bytes colon start after : List ℕ) → Keyed at key bytes colon → MarkAt 58 colon start → Value d place v start after
      → IsRead (member_of len (value_at len d)) 125 (record { at = at; key = key; value = record { at = place; value = v } }) bytes after
  member_read d at key place v bytes colon start after k m r = record {
    front = k.0;
    here = k.1;
    reads = rw (k.2, k.5, mark_read 58 fault.Colon colon start refl m, r.here, r.reads) (ap (λ a. Ok (record { at = a; key = key; value = record { at = place; value = v } }, after)) (sym k.4));
    goes = k.3;
    shorter = omega (arith, k.6, mark_shorter 58 colon start m, r.shorter);
  }

  -- ---- lists and objects

  abbrev Listed : ℕ → Items → List ℕ → List ℕ → Type 0
  Listed d js bytes rest = Items' d js bytes rest × (length rest < length bytes)

  abbrev Kept : ℕ → Members → List ℕ → List ℕ → Type 0
  Kept d ms bytes rest = Members' d ms bytes rest × (length rest < length bytes)

  no_items_read : (d n : ℕ) (found : List JsonV) (bytes rest : List ℕ) → MarkAt 93 bytes rest → length bytes < n
      → items_from (value_at len d) 93 fault.Value fault.ListEnd n found bytes ≡ Ok (found ++ [], rest)
  no_items_read d zero found bytes rest x k = absurd (omega (arith, k))
  no_items_read d (suc n) found bytes rest x k =
      closes_now (value_at len d) 93 fault.Value fault.ListEnd n found bytes _ (token_read bytes _ x.1) refl ∙ ap (λ f. Ok (f, rest)) (sym (append-nil found))

  item_read : (d at : ℕ) (v : ValueV) (js : Items) (bytes after rest : List ℕ) → Value d at v bytes after
      → ((js ≡ no_items) × MarkAt 93 after rest) ⊎ ((more : List ℕ) × MarkAt 44 after more × Listed d js more rest)
      → (n : ℕ) (found : List JsonV) → length bytes < n
      → items_from (value_at len d) 93 fault.Value fault.ListEnd n found bytes ≡ Ok (found ++ items_list (item at v js), rest)
  item_read d at v js bytes after rest r x zero found k = absurd (omega (arith, k))
  item_read d at v js bytes after rest r (inl y) (suc n) found k =
      last_item (value_at len d) 93 fault.Value fault.ListEnd n found bytes r.front r.here r.goes (record { at = at; value = v }) after rest r.reads (end_closes 93 fault.ListEnd after rest refl y.1)
      ∙ ap (λ js'. Ok (found ++ items_list (item at v js'), rest)) (sym y.0)
  item_read d at v js bytes after rest r (inr z) (suc n) found k =
      let x : JsonV = record { at = at; value = v } in
      next_item (value_at len d) 93 fault.Value fault.ListEnd n found bytes r.front r.here r.goes x after z.0 r.reads (end_goes 93 fault.ListEnd after z.0 refl z.1)
      ∙ z.2.0 n (found ++ x ∷ []) (omega (arith, k, r.shorter, mark_shorter 44 after z.0 z.1))
      ∙ ap (λ f. Ok (f, rest)) (append_assoc found (x ∷ []) (items_list js))

  no_members_read : (d n : ℕ) (found : List MemberV) (bytes rest : List ℕ) → MarkAt 125 bytes rest → length bytes < n
      → items_from (member_of len (value_at len d)) 125 fault.Key fault.ObjectEnd n found bytes ≡ Ok (found ++ [], rest)
  no_members_read d zero found bytes rest x k = absurd (omega (arith, k))
  no_members_read d (suc n) found bytes rest x k =
      closes_now (member_of len (value_at len d)) 125 fault.Key fault.ObjectEnd n found bytes _ (token_read bytes _ x.1) refl ∙ ap (λ f. Ok (f, rest)) (sym (append-nil found))

  member_kept : (d at : ℕ) (key : List ℕ) (place : ℕ) (v : ValueV) (ms : Members) (bytes after rest : List ℕ)
      → IsRead (member_of len (value_at len d)) 125 (record { at = at; key = key; value = record { at = place; value = v } }) bytes after
      → ((ms ≡ no_members) × MarkAt 125 after rest) ⊎ ((more : List ℕ) × MarkAt 44 after more × Kept d ms more rest)
      → (n : ℕ) (found : List MemberV) → length bytes < n
      → items_from (member_of len (value_at len d)) 125 fault.Key fault.ObjectEnd n found bytes ≡ Ok (found ++ members_list (member at key place v ms), rest)
  member_kept d at key place v ms bytes after rest r x zero found k = absurd (omega (arith, k))
  member_kept d at key place v ms bytes after rest r (inl y) (suc n) found k =
      last_item (member_of len (value_at len d)) 125 fault.Key fault.ObjectEnd n found bytes r.front r.here r.goes
      (record { at = at; key = key; value = record { at = place; value = v } }) after rest r.reads (end_closes 125 fault.ObjectEnd after rest refl y.1)
      ∙ ap (λ ms'. Ok (found ++ members_list (member at key place v ms'), rest)) (sym y.0)
  member_kept d at key place v ms bytes after rest r (inr z) (suc n) found k =
      let x : MemberV = record { at = at; key = key; value = record { at = place; value = v } } in
      next_item (member_of len (value_at len d)) 125 fault.Key fault.ObjectEnd n found bytes r.front r.here r.goes x after z.0 r.reads (end_goes 125 fault.ObjectEnd after z.0 refl z.1)
      ∙ z.2.0 n (found ++ x ∷ []) (omega (arith, k, r.shorter, mark_shorter 44 after z.0 z.1))
      ∙ ap (λ f. Ok (f, rest)) (append_assoc found (x ∷ []) (members_list ms))

  others : {P : Type 0} {R Q S : List ℕ → Type 0} → ((more : List ℕ) → Q more → S more) → P ⊎ ((more : List ℕ) × R more × Q more) → P ⊎ ((more : List ℕ) × R more × S more)
  others f (inl y) = inl y
  others f (inr z) = inr (z.0, z.1, f z.0 z.2)

  tail_shorter : (P : Type 0) (Q : List ℕ → Type 0) (close : ℕ) (after rest : List ℕ) → ((more : List ℕ) → Q more → length rest < length more)
      → (P × MarkAt close after rest) ⊎ ((more : List ℕ) × MarkAt 44 after more × Q more) → length rest < length after
  tail_shorter P Q close after rest fewer (inl y) = mark_shorter close after rest y.1
  tail_shorter P Q close after rest fewer (inr z) = let s = fewer z.0 z.2 in omega (arith, mark_shorter 44 after z.0 z.1, s)

  mutual
    value_spelled : (d at : ℕ) (v : ValueV) (bytes rest : List ℕ) → depth v ≤ d → ValueAt len at v bytes rest → Value d at v bytes rest
    value_spelled d at (values.word w) bytes rest h x = word_read d at w bytes rest x
    value_spelled d at (values.text w) bytes rest h x = text_read d at w bytes rest x
    value_spelled zero at (list js) bytes rest h x = absurd (omega (arith, h))
    value_spelled (suc d) at (list js) bytes rest h x =
        let l = items_spelled d js x.0 rest (omega (arith, h)) x.2 in
        list_read d at js bytes x.0 rest x.1 l.0 l.1
    value_spelled zero at (object ms) bytes rest h x = absurd (omega (arith, h))
    value_spelled (suc d) at (object ms) bytes rest h x =
        let l = members_spelled d ms x.0 rest (omega (arith, h)) x.2 in
        object_read d at ms bytes x.0 rest x.1 l.0 l.1

    items_spelled : (d : ℕ) (js : Items) (bytes rest : List ℕ) → items_depth js ≤ d → ItemsAt len js bytes rest → Listed d js bytes rest
    items_spelled d no_items bytes rest h x = (λ n found k. no_items_read d n found bytes rest x k, mark_shorter 93 bytes rest x)
    items_spelled d (item at v js) bytes rest h x =
        let r = value_spelled d at v bytes x.0 (omega (arith, h)) x.1 in
        let more = λ (m : List ℕ) (i : ItemsAt len js m rest). items_spelled d js m rest (omega (arith, h)) i in (
          item_read d at v js bytes x.0 rest r (others more x.2),
          omega (arith, r.shorter, tail_shorter (js ≡ no_items) (λ m. ItemsAt len js m rest) 93 x.0 rest (λ m i. (more m i).1) x.2),
        )

    members_spelled : (d : ℕ) (ms : Members) (bytes rest : List ℕ) → members_depth ms ≤ d → MembersAt len ms bytes rest → Kept d ms bytes rest
    members_spelled d no_members bytes rest h x = (λ n found k. no_members_read d n found bytes rest x k, mark_shorter 125 bytes rest x)
    members_spelled d (member at key place v ms) bytes rest h x =
        let value = value_spelled d place v x.1 x.2 (omega (arith, h)) x.5 in
        let r = member_read d at key place v bytes x.0 x.1 x.2 (key_read at key bytes x.0 x.3) x.4 value in
        let more = λ (m : List ℕ) (i : MembersAt len ms m rest). members_spelled d ms m rest (omega (arith, h)) i in (
          member_kept d at key place v ms bytes x.2 rest r (others more x.6),
          omega (arith, r.shorter, tail_shorter (ms ≡ no_members) (λ m. MembersAt len ms m rest) 125 x.2 rest (λ m i. (more m i).1) x.6),
        )

  values_spelled : (js : List JsonV) (bytes : List ℕ) (n : ℕ) (found : List JsonV) → ValuesAt len js bytes → NestTo 256 js → length bytes < n → values_from len n found bytes ≡ Ok (found ++ js)
  unfolding values_from
  values_spelled [] bytes zero found x deep k = absurd (omega (arith, k))
  values_spelled [] bytes (suc n) found x deep k = rw (end_read bytes x) (ap Ok (sym (append-nil found)))
  values_spelled (j ∷ js) bytes zero found x deep k = absurd (omega (arith, k))
  values_spelled (j ∷ js) bytes (suc n) found x deep k =
      let r = value_spelled 256 j.at j.value bytes x.0 deep.0 x.1 in
      let rest = values_spelled js x.0 n (found ++ j ∷ []) x.2 deep.1 (omega (arith, k, r.shorter)) in
      rw (r.here, r.reads) (rest ∙ ap Ok (append_assoc found (j ∷ []) js))

pub spelled_read : (bytes : List ℕ) (js : List JsonV) → Spells bytes js → read bytes ≡ Ok js
spelled_read bytes js x = values_spelled (length bytes) js (after_order_mark bytes) (suc (length (after_order_mark bytes))) [] x.0 x.1 (omega arith)
