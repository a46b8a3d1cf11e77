-- What is read was spelled: values.
use Rattle.std.proofs.Common.{◌≡◌, ℕ, zero, suc, ◌<◌, ◌≤◌, ◌+◌, ◌-◌, List, [], ◌∷◌, ◌++◌, length, take, drop, true, false, Bool, refl, sym, ap, ◌∙◌, append_assoc, append-nil, arith, Result, Ok, Err, Option, Some, None, subst, inl, inr, ◌⊎◌, length-drop}
use Rattle.std.specs.Prelude.{◌==◌}
use Rattle.std.specs.Str.{bytes_eq}
use Rattle.std.proofs.lemmas.Bool.{eqb-true}
use Rattle.planus_json_syntax.specs.declared.fault_kind.FaultKind.{FaultKind}
use Rattle.planus_json_syntax.specs.declared.fault_kind.FaultKind.TheVariants as fault
use Rattle.planus_json_syntax.specs.Strings.{Fault}
use Rattle.planus_json_syntax.specs.Tokens.{◌>>=◌, Token, mark, word, text, Front, next}
use Rattle.planus_json_syntax.specs.Values as values
use Rattle.planus_json_syntax.specs.Values.{ValueV, list, object, Items, no_items, item, Members, no_members, member, JsonV, MemberV, items_of, members_of}
use Rattle.planus_json_syntax.specs.Reading.{Item, Reads, is_mark_of, is_name, wanted, front_or, after_mark, end_at, key_of, key_in, items_from, items_step, items_at, more_of, values_from, values_step, value_at, value_in, nested_at, nested_in, too_deep, list_at, object_at, member_of, read, after_order_mark}
use Rattle.planus_json_syntax.specs.Spelling.{TokenAt, MarkAt, PlacedAt, KeyAt, ValueAt, ItemsAt, MembersAt, ValuesAt, depth, items_depth, members_depth, NestTo, Spells}
use Rattle.planus_json_syntax.proofs.FoundStrings.{if_is, two, parts_of}
use Rattle.planus_json_syntax.proofs.FoundTokens.{then_ok, token_found, end_found}
use Rattle.planus_json_syntax.proofs.SpelledTokens.{token_shorter}

abbrev ok : {A : Type 0} → A → Result A Fault
ok x = Ok x

same_ok : {A : Type 0} (x y : A) → ok x ≡ ok y → x ≡ y
same_ok x y e = cc

is_wanted : (kind : FaultKind) (found : Option Front) (front : Front) → wanted kind found ≡ Ok front → found ≡ Some front
is_wanted kind None front e = absurd cc
is_wanted kind (Some f) front e = ap Some (same_ok f front e)

-- the first token is this
front_is : (kind : FaultKind) (bytes : List ℕ) (front : Front) → front_or kind bytes ≡ Ok front → TokenAt bytes front
front_is kind bytes front e =
    let k = then_ok (next bytes) (wanted kind) front e in
    token_found bytes front (k.1 ∙ ap ok (is_wanted kind k.0 front k.2))

mark_is : (m : ℕ) (token : Token) → is_mark_of m token ≡ true → token ≡ mark m
mark_is m (mark b) h = ap mark (eqb-true b m h)
mark_is m (word w) h = absurd cc
mark_is m (text w) h = absurd cc

mark_found : (m : ℕ) (bytes : List ℕ) (front : Front) → is_mark_of m front.token ≡ true → TokenAt bytes front → MarkAt m bytes front.rest
mark_found m bytes front h t = (front.left, subst (λ token. TokenAt bytes (record { token = token; left = front.left; rest = front.rest })) (mark_is m front.token h) t)

after_found : (m : ℕ) (kind : FaultKind) (bytes rest : List ℕ) → after_mark m kind bytes ≡ Ok rest → MarkAt m bytes rest
after_found m kind bytes rest e =
    let k = then_ok (front_or kind bytes) _ rest e in
    if_is (λ r. r ≡ ok rest → MarkAt m bytes rest) (is_mark_of m k.0.token) (ok k.0.rest) (Err (kind, k.0.left))
    (λ h f. subst (λ r. MarkAt m bytes r) (same_ok k.0.rest rest f) (mark_found m bytes k.0 h (front_is kind bytes k.0 k.1)))
    (λ h f. absurd cc) k.2

-- what follows an item
abbrev Ends : ℕ → List ℕ → Bool × List ℕ → Type 0
Ends close bytes x = ((x.0 ≡ true) × MarkAt close bytes x.1) ⊎ ((x.0 ≡ false) × MarkAt 44 bytes x.1)

end_found_at : (close : ℕ) (kind : FaultKind) (bytes : List ℕ) (x : Bool × List ℕ) → end_at close kind bytes ≡ Ok x → Ends close bytes x
end_found_at close kind bytes x e =
    let k = then_ok (front_or kind bytes) _ x e in
    let t = front_is kind bytes k.0 k.1 in
    let P = λ (r : Reads Bool). r ≡ ok x → Ends close bytes x in
    if_is P (is_mark_of close k.0.token) (ok (two true k.0.rest)) _
    (λ h f. subst (λ y. Ends close bytes y) (same_ok (two true k.0.rest) x f) (inl (refl, mark_found close bytes k.0 h t)))
    (λ h. if_is P (is_mark_of 44 k.0.token) (ok (two false k.0.rest)) (Err (kind, k.0.left))
    (λ l f. subst (λ y. Ends close bytes y) (same_ok (two false k.0.rest) x f) (inr (refl, mark_found 44 bytes k.0 l t)))
    (λ l f. absurd cc)) k.2

mark_shorter : (m : ℕ) (bytes rest : List ℕ) → MarkAt m bytes rest → length rest < length bytes
mark_shorter m bytes rest x = let s = token_shorter bytes _ x.1 in omega (arith, s.0, s.1)

-- ---- items

-- items up to the closing mark
module _ {A : Type 0} (close : ℕ) (Is : A → List ℕ → List ℕ → Type 0) where
  abbrev Row : List A → List ℕ → List ℕ → Type 0
  Row [] bytes rest = MarkAt close bytes rest
  Row (x ∷ xs) bytes rest = (after : List ℕ) × Is x bytes after × (((xs ≡ []) × MarkAt close after rest) ⊎ ((more : List ℕ) × MarkAt 44 after more × Row xs more rest))

module _ {A : Type 0} (reader : Item A) (close : ℕ) (missing kind : FaultKind) (Is : A → List ℕ → List ℕ → Type 0) (Fine : List ℕ → Type 0)
    (kept : (bytes rest : List ℕ) → Fine bytes → length rest < length bytes → Fine rest)
    (sound : (bytes : List ℕ) (front : Front) (x : A) (rest : List ℕ) → Fine bytes → TokenAt bytes front → reader front ≡ Ok (x, rest) → Is x bytes rest × (length rest < length bytes)) where
  record Found (found : List A) (bytes : List ℕ) (all : List A) (rest : List ℕ) : Type 0 where
    items : List A
    all_is : all ≡ found ++ items
    row : Row close Is items bytes rest
    shorter : length rest < length bytes

  abbrev Sound : (List A → List ℕ → Reads (List A)) → Type 0
  Sound more = (found : List A) (bytes : List ℕ) (all : List A) (rest : List ℕ) → Fine bytes → more found bytes ≡ Ok (all, rest) → Found found bytes all rest

  end_step : (more : List A → List ℕ → Reads (List A)) → Sound more → (found : List A) (x : A) (bytes after : List ℕ) (end : Bool × List ℕ) (all : List A) (rest : List ℕ) → Fine bytes
      → Is x bytes after → length after < length bytes → Ends close after end → more_of reader close missing kind more (found ++ x ∷ []) end ≡ Ok (all, rest) → Found found bytes all rest
  end_step more good found x bytes after (true, r) all rest fine is fewer (inl m) e =
      let s = parts_of (found ++ x ∷ []) all r rest (same_ok (two (found ++ x ∷ []) r) (two all rest) e) in
      record {
        items = x ∷ [];
        all_is = sym s.0;
        row = (after, is, inl (refl, subst (λ y. MarkAt close after y) s.1 m.1));
        shorter = omega (arith, fewer, mark_shorter close after r m.1, ap length s.1);
      }
  end_step more good found x bytes after (false, r) all rest fine is fewer (inl m) e = absurd cc
  end_step more good found x bytes after (true, r) all rest fine is fewer (inr m) e = absurd cc
  end_step more good found x bytes after (false, r) all rest fine is fewer (inr m) e =
      let f = good (found ++ x ∷ []) r all rest (kept bytes r fine (omega (arith, fewer, mark_shorter 44 after r m.1))) e in
      record {
        items = x ∷ f.items;
        all_is = f.all_is ∙ append_assoc found (x ∷ []) f.items;
        row = (after, is, inr (r, m.1, f.row));
        shorter = omega (arith, fewer, mark_shorter 44 after r m.1, f.shorter);
      }

  step_sound : (more : List A → List ℕ → Reads (List A)) → Sound more → Sound (items_step reader close missing kind more)
  step_sound more good found bytes all rest fine e =
      let k = then_ok (front_or missing bytes) _ (two all rest) e in
      let t = front_is missing bytes k.0 k.1 in
      if_is (λ r. r ≡ ok (two all rest) → Found found bytes all rest) (is_mark_of close k.0.token) (ok (two found k.0.rest)) _
      (λ h f.
      let s = parts_of found all k.0.rest rest (same_ok (two found k.0.rest) (two all rest) f) in
      let m = subst (λ y. MarkAt close bytes y) s.1 (mark_found close bytes k.0 h t) in
      record { items = []; all_is = sym s.0 ∙ sym (append-nil found); row = m; shorter = mark_shorter close bytes rest m })
      (λ h f.
      let x = then_ok (reader k.0) _ (two all rest) f in
      let y = then_ok (end_at close kind x.0.1) _ (two all rest) x.2 in
      let is = sound bytes k.0 x.0.0 x.0.1 fine t x.1 in
      end_step more good found x.0.0 bytes x.0.1 y.0 all rest fine is.0 is.1 (end_found_at close kind x.0.1 y.0 y.1) y.2) k.2

  row_found : (n : ℕ) → Sound (items_from reader close missing kind n)
  unfolding items_from
  row_found zero found bytes all rest fine e = absurd cc
  row_found (suc n) found bytes all rest fine e = step_sound (items_from reader close missing kind n) (row_found n) found bytes all rest fine e

-- ---- values

module _ (len : ℕ) where
  abbrev Within : List ℕ → Type 0
  Within bytes = length bytes ≤ len

  kept_within : (bytes rest : List ℕ) → Within bytes → length rest < length bytes → Within rest
  kept_within bytes rest h k = omega arith

  abbrev IsValue : ℕ → JsonV → List ℕ → List ℕ → Type 0
  IsValue d x bytes rest = ValueAt len x.at x.value bytes rest × (depth x.value ≤ d)

  abbrev IsMember : ℕ → MemberV → List ℕ → List ℕ → Type 0
  IsMember d m bytes rest = (colon : List ℕ) × (start : List ℕ) × KeyAt len m.at m.key bytes colon × MarkAt 58 colon start
      × ValueAt len m.value.at m.value.value start rest × (depth m.value.value ≤ d)

  abbrev ValueSound : ℕ → Type 0
  ValueSound d = (bytes : List ℕ) (front : Front) (x : JsonV) (rest : List ℕ) → Within bytes → TokenAt bytes front → value_at len d front ≡ Ok (x, rest) → IsValue d x bytes rest × (length rest < length bytes)

  abbrev MemberSound : ℕ → Type 0
  MemberSound d = (bytes : List ℕ) (front : Front) (m : MemberV) (rest : List ℕ) → Within bytes → TokenAt bytes front → member_of len (value_at len d) front ≡ Ok (m, rest) → IsMember d m bytes rest × (length rest < length bytes)

  place_back : (left : ℕ) → left ≤ len → (len - left) + left ≡ len
  place_back left h = omega arith

  token_placed : (bytes : List ℕ) (token : Token) (left : ℕ) (rest : List ℕ) → Within bytes → TokenAt bytes (record { token = token; left = left; rest = rest }) → PlacedAt len (len - left) token bytes rest
  token_placed bytes token left rest h t = let s = token_shorter bytes _ t in (left, t, place_back left (omega (arith, s.1, h)))

  key_found : (bytes : List ℕ) (token : Token) (left : ℕ) (rest key : List ℕ) → Within bytes → TokenAt bytes (record { token = token; left = left; rest = rest }) → key_in left token ≡ Ok key
      → KeyAt len (len - left) key bytes rest
  key_found bytes (mark m) left rest key h t e = absurd cc
  key_found bytes (text w) left rest key h t e = subst (λ k. KeyAt len (len - left) k bytes rest) (same_ok w key e) (inl (token_placed bytes (text w) left rest h t))
  key_found bytes (word w) left rest key h t e =
      if_is (λ r. r ≡ ok key → KeyAt len (len - left) key bytes rest) (is_name w) (ok w) (Err (fault.Key, left))
      (λ k f. subst (λ k. KeyAt len (len - left) k bytes rest) (same_ok w key f) (inr (k, token_placed bytes (word w) left rest h t)))
      (λ k f. absurd cc) e

  member_sound : (d : ℕ) → ValueSound d → MemberSound d
  member_sound d sound bytes front m rest h t e =
      let key = then_ok (key_of front) _ (two m rest) e in
      let value = then_ok (after_mark 58 fault.Colon front.rest >>= front_or fault.Value >>= value_at len d) _ (two m rest) key.2 in
      let first = then_ok (after_mark 58 fault.Colon front.rest >>= front_or fault.Value) (value_at len d) value.0 value.1 in
      let start = then_ok (after_mark 58 fault.Colon front.rest) (front_or fault.Value) first.0 first.1 in
      let colon = after_found 58 fault.Colon front.rest start.0 start.1 in
      let s = token_shorter bytes front t in
      let fewer = mark_shorter 58 front.rest start.0 colon in
      let within : Within start.0 = omega (arith, s.0, s.1, fewer, h) in
      let v = sound start.0 first.0 value.0.0 value.0.1 within (front_is fault.Value start.0 first.0 start.2) first.2 in
      let x : MemberV = record { at = len - front.left; key = key.0; value = value.0.0 } in
      let same = parts_of x m value.0.1 rest (same_ok (two x value.0.1) (two m rest) value.2) in
      let is : IsMember d x bytes value.0.1 = (front.rest, start.0, key_found bytes front.token front.left front.rest key.0 h t key.1, colon, v.0.0, v.0.1) in (
        subst (λ y. IsMember d y bytes rest) same.0 (subst (λ r. IsMember d x bytes r) same.1 is),
        omega (arith, s.0, s.1, fewer, v.1, ap length same.1),
      )

  -- ---- lists and objects

  abbrev Tail : {A : Type 0} → ℕ → List A → (List ℕ → Type 0) → List ℕ → List ℕ → Type 0
  Tail close xs Rest after rest = ((xs ≡ []) × MarkAt close after rest) ⊎ ((more : List ℕ) × MarkAt 44 after more × Rest more)

  item_in : (d : ℕ) (j : JsonV) (js : List JsonV) (bytes after rest : List ℕ) → IsValue d j bytes after
      → Tail 93 js (λ more. ItemsAt len (items_of js) more rest × (items_depth (items_of js) ≤ d)) after rest
      → ItemsAt len (items_of (j ∷ js)) bytes rest × (items_depth (items_of (j ∷ js)) ≤ d)
  item_in d j js bytes after rest is (inl k) =
      let none : items_of js ≡ no_items = ap items_of k.0 in
      ((after, is.0, inl (none, k.1)), omega (arith, is.1, ap items_depth none))
  item_in d j js bytes after rest is (inr k) = ((after, is.0, inr (k.0, k.1, k.2.0)), omega (arith, is.1, k.2.1))

  member_in : (d : ℕ) (m : MemberV) (ms : List MemberV) (bytes after rest : List ℕ) → IsMember d m bytes after
      → Tail 125 ms (λ more. MembersAt len (members_of ms) more rest × (members_depth (members_of ms) ≤ d)) after rest
      → MembersAt len (members_of (m ∷ ms)) bytes rest × (members_depth (members_of (m ∷ ms)) ≤ d)
  member_in d m ms bytes after rest is (inl k) =
      let none : members_of ms ≡ no_members = ap members_of k.0 in
      ((is.0, is.1, after, is.2, is.3, is.4, inl (none, k.1)), omega (arith, is.5, ap members_depth none))
  member_in d m ms bytes after rest is (inr k) = ((is.0, is.1, after, is.2, is.3, is.4, inr (k.0, k.1, k.2.0)), omega (arith, is.5, k.2.1))

  items_in : (d : ℕ) (js : List JsonV) (bytes rest : List ℕ) → Row 93 (IsValue d) js bytes rest → ItemsAt len (items_of js) bytes rest × (items_depth (items_of js) ≤ d)
  items_in d [] bytes rest r = (r, omega arith)
  items_in d (j ∷ js) bytes rest (after, is, inl k) = item_in d j js bytes after rest is (inl k)
  items_in d (j ∷ js) bytes rest (after, is, inr k) = item_in d j js bytes after rest is (inr (k.0, k.1, items_in d js k.0 rest k.2))

  members_in : (d : ℕ) (ms : List MemberV) (bytes rest : List ℕ) → Row 125 (IsMember d) ms bytes rest → MembersAt len (members_of ms) bytes rest × (members_depth (members_of ms) ≤ d)
  members_in d [] bytes rest r = (r, omega arith)
  members_in d (m ∷ ms) bytes rest (after, is, inl k) = member_in d m ms bytes after rest is (inl k)
  members_in d (m ∷ ms) bytes rest (after, is, inr k) = member_in d m ms bytes after rest is (inr (k.0, k.1, members_in d ms k.0 rest k.2))

  list_found : (d : ℕ) → ValueSound d → (bytes : List ℕ) (left : ℕ) (inner : List ℕ) (v : ValueV) (rest : List ℕ) → Within bytes → TokenAt bytes (record { token = mark 91; left = left; rest = inner })
      → list_at len (items_at (value_at len d) 93 fault.Value fault.ListEnd) inner ≡ Ok (v, rest) → IsValue (suc d) (record { at = len - left; value = v }) bytes rest × (length rest < length bytes)
  list_found d sound bytes left inner v rest h t e =
      let k = then_ok (items_at (value_at len d) 93 fault.Value fault.ListEnd inner) _ (two v rest) e in
      let s = token_shorter bytes _ t in
      let within : Within inner = omega (arith, s.0, s.1, h) in
      let f = row_found (value_at len d) 93 fault.Value fault.ListEnd (IsValue d) Within kept_within sound (suc (length inner)) [] inner k.0.0 k.0.1 within k.1 in
      let is = items_in d f.items inner k.0.1 f.row in
      let same = parts_of (list (items_of k.0.0)) v k.0.1 rest (same_ok (two (list (items_of k.0.0)) k.0.1) (two v rest) k.2) in
      let value : IsValue (suc d) (record { at = len - left; value = list (items_of k.0.0) }) bytes k.0.1 =
      rw f.all_is ((inner, token_placed bytes (mark 91) left inner h t, is.0), omega (arith, is.1)) in (
        subst (λ y. IsValue (suc d) (record { at = len - left; value = y }) bytes rest) same.0 (subst (λ r. IsValue (suc d) (record { at = len - left; value = list (items_of k.0.0) }) bytes r) same.1 value),
        omega (arith, s.0, s.1, f.shorter, ap length same.1),
      )

  object_found : (d : ℕ) → ValueSound d → (bytes : List ℕ) (left : ℕ) (inner : List ℕ) (v : ValueV) (rest : List ℕ) → Within bytes → TokenAt bytes (record { token = mark 123; left = left; rest = inner })
      → object_at len (items_at (member_of len (value_at len d)) 125 fault.Key fault.ObjectEnd) inner ≡ Ok (v, rest) → IsValue (suc d) (record { at = len - left; value = v }) bytes rest × (length rest < length bytes)
  object_found d sound bytes left inner v rest h t e =
      let k = then_ok (items_at (member_of len (value_at len d)) 125 fault.Key fault.ObjectEnd inner) _ (two v rest) e in
      let s = token_shorter bytes _ t in
      let within : Within inner = omega (arith, s.0, s.1, h) in
      let f = row_found (member_of len (value_at len d)) 125 fault.Key fault.ObjectEnd (IsMember d) Within kept_within (member_sound d sound) (suc (length inner)) [] inner k.0.0 k.0.1 within k.1 in
      let is = members_in d f.items inner k.0.1 f.row in
      let same = parts_of (object (members_of k.0.0)) v k.0.1 rest (same_ok (two (object (members_of k.0.0)) k.0.1) (two v rest) k.2) in
      let value : IsValue (suc d) (record { at = len - left; value = object (members_of k.0.0) }) bytes k.0.1 =
      rw f.all_is ((inner, token_placed bytes (mark 123) left inner h t, is.0), omega (arith, is.1)) in (
        subst (λ y. IsValue (suc d) (record { at = len - left; value = y }) bytes rest) same.0 (subst (λ r. IsValue (suc d) (record { at = len - left; value = object (members_of k.0.0) }) bytes r) same.1 value),
        omega (arith, s.0, s.1, f.shorter, ap length same.1),
      )

  -- ---- a value by its first token

  nested_found : (d : ℕ) (bytes : List ℕ) (m left : ℕ) (inner : List ℕ) (v : ValueV) (rest : List ℕ) → Within bytes → TokenAt bytes (record { token = mark m; left = left; rest = inner })
      → (lists objects : List ℕ → Reads ValueV)
      → ((m ≡ 91) → lists inner ≡ Ok (v, rest) → IsValue d (record { at = len - left; value = v }) bytes rest × (length rest < length bytes))
      → ((m ≡ 123) → objects inner ≡ Ok (v, rest) → IsValue d (record { at = len - left; value = v }) bytes rest × (length rest < length bytes))
      → nested_in len lists objects left inner m ≡ Ok (v, rest) → IsValue d (record { at = len - left; value = v }) bytes rest × (length rest < length bytes)
  nested_found d bytes m left inner v rest h t lists objects as_list as_object e =
      let P = λ (r : Reads ValueV). r ≡ Ok (v, rest) → IsValue d (record { at = len - left; value = v }) bytes rest × (length rest < length bytes) in
      if_is P (m == 91) (lists inner) _ (λ k f. as_list (eqb-true m 91 k) f)
      (λ k. if_is P (m == 123) (objects inner) (Err (fault.Value, left)) (λ l f. as_object (eqb-true m 123 l) f) (λ l f. absurd cc)) e

  abbrev NestedSound : ℕ → Type 0
  NestedSound d = (bytes : List ℕ) (m left : ℕ) (inner : List ℕ) (v : ValueV) (rest : List ℕ) → Within bytes → TokenAt bytes (record { token = mark m; left = left; rest = inner })
      → nested_at len d left inner m ≡ Ok (v, rest) → IsValue d (record { at = len - left; value = v }) bytes rest × (length rest < length bytes)

  nested_none : NestedSound 0
  unfolding nested_at
  nested_none bytes m left inner v rest h t e = nested_found 0 bytes m left inner v rest h t (too_deep len left) (too_deep len left) (λ k f. absurd cc) (λ k f. absurd cc) e

  nested_some : (d : ℕ) → ValueSound d → NestedSound (suc d)
  unfolding nested_at
  nested_some d sound bytes m left inner v rest h t e =
      nested_found (suc d) bytes m left inner v rest h t
      (list_at len (items_at (value_at len d) 93 fault.Value fault.ListEnd)) (object_at len (items_at (member_of len (value_at len d)) 125 fault.Key fault.ObjectEnd))
      (λ k f. list_found d sound bytes left inner v rest h (subst (λ y. TokenAt bytes (record { token = mark y; left = left; rest = inner })) k t) f)
      (λ k f. object_found d sound bytes left inner v rest h (subst (λ y. TokenAt bytes (record { token = mark y; left = left; rest = inner })) k t) f) e

  value_token : (d : ℕ) → NestedSound d → (bytes : List ℕ) (token : Token) (left : ℕ) (inner : List ℕ) (v : ValueV) (rest : List ℕ) → Within bytes
      → TokenAt bytes (record { token = token; left = left; rest = inner })
      → value_in len (nested_at len d left inner) inner token ≡ Ok (v, rest) → IsValue d (record { at = len - left; value = v }) bytes rest × (length rest < length bytes)
  value_token d sound bytes (mark m) left inner v rest h t e = sound bytes m left inner v rest h t e
  value_token d sound bytes (word w) left inner v rest h t e =
      let same = parts_of (values.word w) v inner rest (same_ok (two (values.word w) inner) (two v rest) e) in
      let s = token_shorter bytes _ t in
      let is : IsValue d (record { at = len - left; value = values.word w }) bytes inner = (token_placed bytes (word w) left inner h t, omega arith) in (
        subst (λ y. IsValue d (record { at = len - left; value = y }) bytes rest) same.0 (subst (λ r. IsValue d (record { at = len - left; value = values.word w }) bytes r) same.1 is),
        omega (arith, s.0, s.1, ap length same.1),
      )
  value_token d sound bytes (text w) left inner v rest h t e =
      let same = parts_of (values.text w) v inner rest (same_ok (two (values.text w) inner) (two v rest) e) in
      let s = token_shorter bytes _ t in
      let is : IsValue d (record { at = len - left; value = values.text w }) bytes inner = (token_placed bytes (text w) left inner h t, omega arith) in (
        subst (λ y. IsValue d (record { at = len - left; value = y }) bytes rest) same.0 (subst (λ r. IsValue d (record { at = len - left; value = values.text w }) bytes r) same.1 is),
        omega (arith, s.0, s.1, ap length same.1),
      )

  value_by : (d : ℕ) → NestedSound d → ValueSound d
  value_by d sound bytes front x rest h t e =
      let k = then_ok (value_in len (nested_at len d front.left front.rest) front.rest front.token) _ (two x rest) e in
      let j : JsonV = record { at = len - front.left; value = k.0.0 } in
      let same = parts_of j x k.0.1 rest (same_ok (two j k.0.1) (two x rest) k.2) in
      let is = value_token d sound bytes front.token front.left front.rest k.0.0 k.0.1 h t k.1 in
      (subst (λ y. IsValue d y bytes rest) same.0 (subst (λ r. IsValue d j bytes r) same.1 is.0), omega (arith, is.1, ap length same.1))

  value_sound : (d : ℕ) → ValueSound d
  value_sound zero = value_by zero (λ bytes m left inner v rest h t e. nested_none bytes m left inner v rest h t e)
  value_sound (suc d) = value_by (suc d) (λ bytes m left inner v rest h t e. nested_some d (value_sound d) bytes m left inner v rest h t e)

  -- ---- whole texts

  record AllFound (found : List JsonV) (bytes : List ℕ) (all : List JsonV) : Type 0 where
    js : List JsonV
    all_is : all ≡ found ++ js
    are : ValuesAt len js bytes
    deep : NestTo 256 js

  values_next : (n : ℕ) → ((found : List JsonV) (bytes : List ℕ) (all : List JsonV) → Within bytes → values_from len n found bytes ≡ Ok all → AllFound found bytes all)
      → (found : List JsonV) (bytes : List ℕ) (all : List JsonV) → Within bytes → (o : Option Front) → next bytes ≡ Ok o → values_step len (values_from len n) found o ≡ Ok all → AllFound found bytes all
  values_next n good found bytes all h None o e = record { js = []; all_is = sym (same_ok found all e) ∙ sym (append-nil found); are = end_found bytes o; deep = tt }
  values_next n good found bytes all h (Some front) o e =
      let k = then_ok (value_at len 256 front) (λ x. values_from len n (found ++ x.0 ∷ []) x.1) all e in
      let v = value_sound 256 bytes front k.0.0 k.0.1 h (token_found bytes front o) k.1 in
      let f = good (found ++ k.0.0 ∷ []) k.0.1 all (omega (arith, v.1, h)) k.2 in
      record {
        js = k.0.0 ∷ f.js;
        all_is = f.all_is ∙ append_assoc found (k.0.0 ∷ []) f.js;
        are = (k.0.1, v.0.0, f.are);
        deep = (v.0.1, f.deep);
      }

  values_found : (n : ℕ) (found : List JsonV) (bytes : List ℕ) (all : List JsonV) → Within bytes → values_from len n found bytes ≡ Ok all → AllFound found bytes all
  unfolding values_from
  values_found zero found bytes all h e = absurd cc
  values_found (suc n) found bytes all h e =
      let k = then_ok (next bytes) (values_step len (values_from len n) found) all e in
      values_next n (λ f b a. values_found n f b a) found bytes all h k.0 k.1 k.2

mark_shortens : (bytes : List ℕ) → length (after_order_mark bytes) ≤ length bytes
mark_shortens bytes =
    if_is (λ r. length r ≤ length bytes) (bytes_eq (take 3 bytes) (239 ∷ 187 ∷ 191 ∷ [])) (drop 3 bytes) bytes (λ h. omega (arith, length-drop 3 bytes)) (λ h. omega arith)

pub found_spelled : (bytes : List ℕ) (js : List JsonV) → read bytes ≡ Ok js → Spells bytes js
found_spelled bytes js e =
    let f = values_found (length bytes) (suc (length (after_order_mark bytes))) [] (after_order_mark bytes) js (mark_shortens bytes) e in
    rw f.all_is (f.are, f.deep)
