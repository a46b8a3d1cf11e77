-- How a view ends.
use Rattle.std.proofs.Common.{ℕ, ◌≤◌, List, [], ◌∷◌, ◌++◌, subst, sym, ◌∙◌, Option, Some}
use Rattle.planus_dump.specs.Events.{Event, deep}
use Rattle.planus_dump.specs.Dumped.{AreShown}
use Rattle.planus_dump.specs.Views.{ViewsPart, EndsBy}
use Rattle.planus_dump.specs.declared.end.End.{End}
use Rattle.planus_dump.specs.declared.end.End.TheVariants.{Whole, TooDeep, TooManyLines, TooManyBytes}
use Rattle.planus_dump.specs.declared.end.End.TheVariants as ends
use Rattle.planus_dump.proofs.Feeds.{AreLines, Taken, Answered, shown_length}

part : (es rest lines : List Event) (texts : List (List ℕ)) (most size : ℕ) → Taken [] (Some size) es rest lines most → AreShown lines texts → ViewsPart es texts rest most size
part es rest lines texts most size t shows = record {
  begin = record { front = t.new; split = t.split; shown = subst (λ ls. AreShown ls texts) t.is shows };
  few = subst (λ n. n ≤ most) (sym (shown_length lines texts shows)) t.most;
  small = t.fits;
}

pub ends_whole : (es lines : List Event) (texts : List (List ℕ)) (most size : ℕ) → Answered [] (Some size) es most lines Whole → AreShown lines texts → EndsBy ends.Whole es texts most size
ends_whole es lines texts most size t shows = part es [] lines texts most size t shows

pub ends_deep : (es lines : List Event) (texts : List (List ℕ)) (most size : ℕ) → Answered [] (Some size) es most lines TooDeep → AreShown lines texts → EndsBy ends.TooDeep es texts most size
ends_deep es lines texts most size (rest, t) shows = (rest, part es (deep ∷ rest) lines texts most size t shows)

pub ends_many : (es lines : List Event) (texts : List (List ℕ)) (most size : ℕ) → Answered [] (Some size) es most lines TooManyLines → AreShown lines texts → EndsBy ends.TooManyLines es texts most size
ends_many es lines texts most size (l, rest, is, t, n) shows = (l, rest, is, part es (l ∷ rest) lines texts most size t shows, shown_length lines texts shows ∙ n)

pub ends_long : (es lines : List Event) (texts : List (List ℕ)) (most size : ℕ) → Answered [] (Some size) es most lines TooManyBytes → AreShown lines texts → EndsBy ends.TooManyBytes es texts most size
unfolding part
ends_long es lines texts most size (l, rest, is, t, n) shows = (l, rest, is, part es (l ∷ rest) lines texts most size t shows, n)

pub ends_by : (es lines : List Event) (texts : List (List ℕ)) (most size : ℕ) (stop : End) → Answered [] (Some size) es most lines stop → AreShown lines texts → EndsBy stop es texts most size
ends_by es lines texts most size Whole t shows = ends_whole es lines texts most size t shows
ends_by es lines texts most size TooDeep t shows = ends_deep es lines texts most size t shows
ends_by es lines texts most size TooManyLines t shows = ends_many es lines texts most size t shows
ends_by es lines texts most size TooManyBytes t shows = ends_long es lines texts most size t shows

taken_lines : (room : Option ℕ) (es rest lines : List Event) (budget : ℕ) → Taken [] room es rest lines budget → AreLines lines
taken_lines room es rest lines budget t = subst AreLines (sym t.is) t.all

pub are_lines : (es lines : List Event) (room : Option ℕ) (most : ℕ) (stop : End) → Answered [] room es most lines stop → AreLines lines
are_lines es lines room most Whole t = taken_lines room es [] lines most t
are_lines es lines room most TooDeep (rest, t) = taken_lines room es (deep ∷ rest) lines most t
are_lines es lines room most TooManyLines (l, rest, is, t, n) = taken_lines room es (l ∷ rest) lines most t
are_lines es lines room most TooManyBytes (l, rest, is, t, n) = taken_lines room es (l ∷ rest) lines most t

pub lines_after : (front rest : List Event) → AreLines (front ++ rest) → AreLines rest
lines_after [] rest all = all
lines_after (e ∷ front) rest all = lines_after front rest all.1
