-- Entries that a builder writes, in a history of it.
use Rattle.std.proofs.Common.{◌≡◌, [], ◌∷◌, ◌++◌, sym, subst, refl, inl, inr}
use Rattle.planus_write.specs.History.{PutsAll, ComesToTooLarge}
use Rattle.planus_write.specs.State.{IsHistoryOf}
use Rattle.planus_write.specs.Standing.{EntriesArePut, EntriesAreTooLarge}

pub entries_put : EntriesArePut
entries_put [] got old all new history h is_history =
    let same : all ≡ got = cc in
    (history, (same, refl), subst (λ state. IsHistoryOf state history) (sym h.1) is_history)
entries_put (entry ∷ entries) got old all new history h is_history =
    let first = h.2.puts history is_history in
    let rest = entries_put entries (got ++ h.0 ∷ []) h.1 all new first.0 h.3 first.2 in (
      rest.0,
      (
        h.0,
        first.0,
        first.1,
        subst
            (λ settings. PutsAll settings entries (got ++ h.0 ∷ []) first.0 all rest.0) h.2.settings
            rest.1,
      ),
      rest.2,
    )

pub entries_too_large : EntriesAreTooLarge
entries_too_large [] got old new history h is_history = (cc)
entries_too_large (entry ∷ entries) got old new history (inl refused) is_history =
    inl (refused.cause history is_history)
entries_too_large (entry ∷ entries) got old new history (inr h) is_history =
    let first = h.2.puts history is_history in
    let rest = entries_too_large entries (got ++ h.0 ∷ []) h.1 new first.0 h.3 first.2 in
    inr (
      h.0,
      first.0,
      first.1,
      subst
          (λ settings. ComesToTooLarge settings entries (got ++ h.0 ∷ []) first.0) h.2.settings
          rest,
    )
