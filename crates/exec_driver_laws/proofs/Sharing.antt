-- Drivers that share gates go on sharing them: what each call keeps of where requests stand.
use Rattle.std.proofs.Common.{◌≡◌, ◌≢◌, ◌⊎◌, ℕ, zero, suc, ◌<◌, ◌^◌, eqb, Bool, true, false, cond, List, Option, Some, None, refl, sym, ap, subst, ◌∙◌, inl, inr, arith}
use Rattle.exec_driver_laws.{proofs.{Words.{placed_at, placed_is, deadline_of, Ready, replicate, next_id, IsPast, gate_of, output_of, at_by, over, holder_at, open_at, with_open, with_named, with_account, joined, passed, placed, writing, keeping, WaiterKey, permit_by, FliesPermitted, Reaped, Granted, queued_or_ended, permitted, taken_in, newcomer, opens_after_end, Grants, Reaps, ReapsNext, plainly_written, taken_out, landed_at, open_after, permit_after, Admits, is_some, false≢true, Ended, Account, with_permit, file_of, account_in, Deferred, eqb_tells, Slab, waiter_at, Request, OpResult, Waiter, Entry, Pending, WaiterId, Driving, request_at, OpenState, fresh_open, Observer, entry_of, one_changed, same_some, gate_in}, Passing.{Passes, Rests, gates_same, mild, reap_tells}, Promises.at_most_one, Standing.{IsLast, finished_fits, removed_fits, there_last, gate_kept, gate_moved, open_tells, SameLines, named_lines, unmoved, then_lines, joined_holds, joined_stands, left_stands, holder_stands, Fits, AllFit, asking_last, all_over, reads, none_past, written_fits, filled_fits, filled_last, becomes}}, specs.{Sharing.{Gates, IsGiven, StandsIn, StandsAt, key_of, at_gate, with_leaving, leaving_by, with_lines, passed_on, LineUp, Call, Admit, Join, Grant, Stage, Land, Reap, SetAccount, Recount, Leave, Other, CallsOne, AreFresh, IsRun, lets_out}, Laws.IsDurableFlight, Lines.KeepsLine}}

-- who is to leave a gate, where one was named
leaving_tells : (gate : ℕ) (who : Option WaiterKey) (leaving : ℕ → Option WaiterKey) (file : ℕ) (key : WaiterKey) → at_gate gate who leaving file ≡ Some key → ((file ≡ gate) × (who ≡ Some key)) ⊎ ((file ≢ gate) × (leaving file ≡ Some key))
leaving_tells = grind arith

same_gates : (g : Gates) (opens : List OpenState) (leaving : ℕ → Option WaiterKey) → g.opens ≡ opens → g.leaving ≡ leaving → g ≡ record { opens = opens; leaving = leaving }
same_gates g opens leaving o l i = record { opens = o i; leaving = l i }

-- who is to leave a gate holds it
abbrev Hold : Gates → Type 0
Hold g = (key : WaiterKey) (file : ℕ) → g.leaving file ≡ Some key → holder_at g.opens file ≡ Some key

permit_is : (how : Option Ended) (file other : ℕ) → cond (is_some how) (Some file) None ≡ Some other → file ≡ other
permit_is = grind arith

nobody_stands : (count file : ℕ) (key : WaiterKey) → StandsAt (replicate count fresh_open) file key → ⊥
nobody_stands zero file key stands = stands
nobody_stands (suc count) zero key (inl holds) = cc
nobody_stands (suc count) zero key (inr waits) = let within = waits.1 in omega (arith, within)
nobody_stands (suc count) (suc file) key stands = nobody_stands count file key stands

set_account_lines : (g g' : Gates) (file : Option ℕ) (account : Option Account) → g' ≡ with_lines g (with_account g.opens file account) → SameLines g g'
set_account_lines g g' file account is = subst (SameLines g) (sym is) (named_lines g file (keeping account) (λ o. (refl, refl)))

recounted_lines : (g g' : Gates) (file : Option ℕ) (change : OpenState → OpenState) → ((o : OpenState) → KeepsLine o (change o)) → g' ≡ with_lines g (with_named g.opens file change) → SameLines g g'
recounted_lines g g' file change keeps is = subst (SameLines g) (sym is) (named_lines g file change (λ o. ((keeps o).holder, (keeps o).waiting)))

admitted_lines : (g : Gates) (request : Request) → SameLines g (with_lines g (with_named (with_named g.opens (gate_of request) placed) (plainly_written request) writing))
admitted_lines g request =
    let one = with_lines g (with_named g.opens (gate_of request) placed) in
    then_lines g one (with_lines one (with_named one.opens (plainly_written request) writing)) (named_lines g (gate_of request) placed (λ o. (refl, refl))) (named_lines one (plainly_written request) writing (λ o. (refl, refl)))

relines : (g g' : Gates) → SameLines g g' → SameLines g (with_lines g g'.opens)
relines g g' same = record { holder = same.holder; stands = same.stands; stood = same.stood; leaving = λ file. refl }

module _ {S F : Type 0} where
  end_lines : (g : Gates) (w : Waiter S F) (how : Option Ended) → SameLines g (with_lines g (opens_after_end g.opens w how))
  end_lines = grind (arith, unmoved, named_lines)

  reaped_lines : (g : Gates) (file : Option ℕ) (account : Option Account) (w : Waiter S F) (how : Option Ended) → SameLines g (with_lines g (opens_after_end (with_account g.opens file account) w how))
  reaped_lines g file account w how =
      let one = with_lines g (with_account g.opens file account) in
      then_lines g one (with_lines one (opens_after_end one.opens w how)) (named_lines g file (keeping account) (λ o. (refl, refl))) (end_lines one w how)

  -- somebody joins a line, or leaves it
  abbrev moves_lines : {worker : ℕ} {old new : Driving S F} {g g' : Gates} → Call worker old new g g' → Bool
  moves_lines (Join id fits same is) = true
  moves_lines (Leave id file leaves same is) = true
  moves_lines call = false

  pub call_lines : (worker : ℕ) (old new : Driving S F) (g g' : Gates) (call : Call worker old new g g') → moves_lines call ≡ false → SameLines g (with_lines g g'.opens)
  call_lines worker old new g g' (Admit id request observer now next within never admits leaving) rest = subst (λ (o : List OpenState). SameLines g (with_lines g o)) (sym admits.opens_after) (admitted_lines g request)
  call_lines worker old new g g' (Grant before after file granted w at grants leaving) rest =
      subst (λ (o : List OpenState). SameLines g (with_lines g o)) (sym (grants.grants w at).opens_after) (end_lines g (with_permit w) granted.ended)
  call_lines worker old new g g' (Reap before after told reap leaving) rest =
      elim (reap_tells old new g.opens g'.opens before after told reap) [
        | inl none ↦ subst (λ (o : List OpenState). SameLines g (with_lines g o)) (sym none.same) (unmoved g g refl)
        | inr there ↦ subst (λ (o : List OpenState). SameLines g (with_lines g o)) (sym there.reaps.opens_after) (reaped_lines g (file_of there.w.request) _ (record there.w { in_flight = false; request = there.reaps.request }) there.reaps.answer)
      ]
  call_lines worker old new g g' (SetAccount file account same is) rest = relines g g' (set_account_lines g g' file account is)
  call_lines worker old new g g' (Recount file change keeps same is) rest = relines g g' (recounted_lines g g' file change keeps is)
  call_lines worker old new g g' (Join id fits same is) rest = absurd (false≢true (sym rest))
  call_lines worker old new g g' (Leave id file leaves same is) rest = absurd (false≢true (sym rest))
  call_lines worker old new g g' other rest = relines g g' (unmoved g g' (gates_same other refl))

  -- WHAT A CALL KEEPS: where the worker's own requests stand, where those of the others do, and who is to leave holds

  record Stand (worker : ℕ) (d : Driving S F) (g : Gates) : Type 0 where
    pub all : AllFit g worker d.requests
    pub hold : Hold g
    pub permitted : FliesPermitted d

  record Keeps (worker : ℕ) (s : Slab (Entry S F)) (g g' : Gates) : Type 0 where
    pub mine : AllFit g' worker s
    pub theirs : (other : ℕ) (s' : Slab (Entry S F)) → other ≢ worker → AllFit g other s' → AllFit g' other s'
    pub hold : Hold g'

  by_lines : (worker : ℕ) (s : Slab (Entry S F)) (g g' : Gates) → SameLines g g' → Hold g → AllFit g worker s → Keeps worker s g g'
  by_lines = grind (arith, all_over)

  room_fits : (g : Gates) (worker : ℕ) (s : Slab (Entry S F)) (room : ℕ) → AllFit g worker s → AllFit g worker (record s { room = room })
  room_fits g worker s room all =
      record { fits = λ id w at. all.fits id w at; given = λ id file stands. let was = all.given id file stands in record { fits = was.fits; past = was.past } }

  granted_fits : (g : Gates) (worker : ℕ) (d : Driving S F) (id : WaiterId) (w : Waiter S F) (how : Option Ended) (account : Option Account) → IsLast d.requests id.0 → AllFit g worker d.requests → AllFit g worker (queued_or_ended d id w how account).requests
  granted_fits g worker d id w None account last all = all
  granted_fits g worker d id w (Some how) account last all = finished_fits g worker d.requests id (output_of w.request how account) w.observer last all

  placed_fits : (g : Gates) (worker : ℕ) (d : Driving S F) (id : WaiterId) (w : Waiter S F) (now : ℕ) → IsLast d.requests id.0 → AllFit g worker d.requests → AllFit g worker (placed_at d id w now).requests
  placed_fits = grind (arith, placed_is, deadline_of, finished_fits)

  passes : (g : Gates) (old : Driving S F) (worker : ℕ) (told : Option (WaiterKey × Ended)) (out : Option WaiterId) → Passes old (Rests old) worker told out (AllFit g worker)
  passes g old worker told out =
      record {
        becomes = λ s id w w' at rests. becomes g worker s id w w' at (ap gate_of rests.request) (λ has. sym rests.permit ∙ has);
        ends = λ s id w how account at idle over. finished_fits g worker s id (output_of w.request how account) w.observer (asking_last s id.0 w at);
        leaves = λ s id output at lets. removed_fits g worker s id (there_last s id.0 (Ready output) at);
        room = room_fits g worker;
      }

  admitted_keeps : (worker : ℕ) (old new : Driving S F) (g g' : Gates) (id : WaiterId) (request : Request) (observer : Observer S F) (now : ℕ) → next_id old.requests ≡ Some id.0 → (IsPast old.requests id.0 → ⊥) → Admits old new g.opens g'.opens id request observer now → g'.leaving ≡ g.leaving → Stand worker old g → Keeps worker new.requests g g'
  admitted_keeps worker old new g g' id request observer now next never admits leaving stand =
      let opens = with_named (with_named g.opens (gate_of request) placed) (plainly_written request) writing in
      let lines = admitted_lines g request in
      let nowhere : (file : ℕ) → StandsAt g.opens file (key_of worker id) → ⊥ = λ file stands. never (stand.all.given id file stands).past in
      let fresh : Fits g (key_of worker id) (newcomer request observer) =
      record {
        holds = λ file has is. absurd (false≢true has);
        lines = λ file stands. absurd (nowhere file stands);
        stays = λ file leaves. nowhere file (holder_stands (open_at g.opens file) (key_of worker id) (stand.hold (key_of worker id) file leaves));
      } in
      let filled = filled_fits g worker old.requests old.requests.vacant id (newcomer request observer) next fresh stand.all in
      let all = placed_fits g worker (taken_in old request observer) id (newcomer request observer) now (filled_last old.requests old.requests.vacant id (newcomer request observer) next) filled in
      let there = by_lines worker _ g (with_lines g opens) lines stand.hold (room_fits g worker _ new.requests.room all) in
      subst (λ (h : Gates). Keeps worker new.requests g h) (sym (same_gates g' opens g.leaving admits.opens_after leaving)) (subst (λ (s : Slab (Entry S F)). Keeps worker s g (with_lines g opens)) (sym (ap (λ (m : Driving S F). m.requests) admits.driver)) there)

  -- somebody joins the line of an open
  joined_all : (g : Gates) (file : ℕ) (who : WaiterKey) (worker : ℕ) (s : Slab (Entry S F)) → ((id : WaiterId) (w : Waiter S F) → who ≡ key_of worker id → waiter_at s id.0 ≡ Some w → gate_of w.request ≡ Some file) → ((id : WaiterId) → who ≡ key_of worker id → IsGiven s id) → AllFit g worker s → AllFit (with_lines g (with_open g.opens file (joined who))) worker s
  joined_all g file who worker s own given all =
      record {
        fits = λ id w at.
            let fits = all.fits id w at in
            record {
              holds = grind (arith, open_tells, joined_holds);
              lines = λ other stands. elim (stood id other stands) [ inl before ↦ fits.lines other before | inr same ↦ own id w same.1 at ∙ ap Some (sym same.0) ];
              stays = fits.stays;
            };
        given = λ id other stands. elim (stood id other stands) [ inl before ↦ all.given id other before | inr same ↦ given id same.1 ];
      }
    where
      stood : (id : WaiterId) (other : ℕ) → StandsAt (with_open g.opens file (joined who)) other (key_of worker id) → StandsAt g.opens other (key_of worker id) ⊎ ((other ≡ file) × (who ≡ key_of worker id))
      stood id other stands =
          elim (open_tells g.opens file (joined who) other) [
            | inl same ↦ inl (subst (StandsIn (key_of worker id)) same stands)
            | inr here ↦
                elim (joined_stands who here.0 (key_of worker id) (subst (StandsIn (key_of worker id)) here.3 stands)) [
                  | inl before ↦ inl (subst (StandsIn (key_of worker id)) (sym (ap (open_at g.opens) here.1 ∙ here.2)) before)
                  | inr same ↦ inr (here.1, same)
                ]
          ]

  -- the holder leaves that is to
  left_all : (g : Gates) (file : ℕ) (who : WaiterKey) (worker : ℕ) (s : Slab (Entry S F)) → g.leaving file ≡ Some who → Hold g → AllFit g worker s → AllFit (passed_on g file) worker s
  left_all g file who worker s leaves hold all =
      record {
        fits = λ id w at. let fits = all.fits id w at in record { holds = grind (arith, open_tells); lines = λ other stands. fits.lines other (stood id other stands); stays = grind (arith, leaving_tells) };
        given = λ id other stands. all.given id other (stood id other stands);
      }
    where
      stood : (id : WaiterId) (other : ℕ) → StandsAt (with_open g.opens file passed) other (key_of worker id) → StandsAt g.opens other (key_of worker id)
      stood = grind (arith, open_tells, left_stands)

  -- a request that is over is to leave the gate that it holds
  said_all : (g : Gates) (gate : ℕ) (who : WaiterKey) (worker : ℕ) (s : Slab (Entry S F)) → ((id : WaiterId) (w : Waiter S F) → who ≡ key_of worker id → waiter_at s id.0 ≡ Some w → ⊥) → AllFit g worker s → AllFit (record g { leaving = at_gate gate (Some who) g.leaving }) worker s
  said_all g gate who worker s ends all = record { fits = λ id w at. let fits = all.fits id w at in grind arith; given = all.given }

  said_keeps : (worker : ℕ) (s : Slab (Entry S F)) (g g' : Gates) (gate : Option ℕ) (id : WaiterId) → ((file : ℕ) → gate ≡ Some file → (holder_at g'.opens file ≡ Some (key_of worker id)) × (waiter_at s id.0 ≡ None)) → Keeps worker s g g' → Keeps worker s g (record g' { leaving = with_leaving gate (key_of worker id) g'.leaving })
  said_keeps worker s g g' None id ends keeps = keeps
  said_keeps worker s g g' (Some gate) id ends keeps =
      let at = ends gate refl in
      record {
        mine = said_all g' gate (key_of worker id) worker s (λ other w same there. let none : None ≡ Some w = sym at.1 ∙ ap (λ (k : WaiterKey). waiter_at s k.id.0) same ∙ there in cc) keeps.mine;
        theirs = λ other s' apart all. said_all g' gate (key_of worker id) other s' (λ id' w same there. apart (sym (ap (λ (k : WaiterKey). k.worker) same))) (keeps.theirs other s' apart all);
        hold = λ key file is. elim (leaving_tells gate (Some (key_of worker id)) g'.leaving file key is) [ inl same ↦ ap (holder_at g'.opens) same.0 ∙ at.0 ∙ same.1 | inr before ↦ keeps.hold key file before.1 ];
      }

  joined_keeps : (worker : ℕ) (old : Driving S F) (g : Gates) (id : WaiterId) (gate : Option ℕ) → id.0.generation < 2 ^ 64 → gate_in (request_at old id) ≡ gate → Stand worker old g → Keeps worker old.requests g (with_lines g (with_named g.opens gate (joined (key_of worker id))))
  joined_keeps = grind (arith, by_lines, unmoved, joined_all, request_at, open_tells, joined_holds, at_by, entry_of)

  left_keeps : (worker : ℕ) (old : Driving S F) (g : Gates) (who : WaiterKey) (file : ℕ) → g.leaving file ≡ Some who → Stand worker old g → Keeps worker old.requests g (passed_on g file)
  left_keeps worker old g who file leaves stand =
      record {
        mine = left_all g file who worker old.requests leaves stand.hold stand.all;
        theirs = λ other s' apart. left_all g file who other s' leaves stand.hold;
        hold = grind (arith, leaving_tells, open_tells);
      }

  granted_over : (d : Driving S F) (id : WaiterId) (w : Waiter S F) (how : Option Ended) (account : Option Account) (file : ℕ) → request_at d id ≡ Some w → cond (is_some how) (Some file) None ≡ Some file → request_at (queued_or_ended d id w how account) id ≡ None
  granted_over = grind (arith, over)

  granted_keeps : (worker : ℕ) (old new : Driving S F) (g g' : Gates) (before after : Deferred S F) (file : ℕ) (granted : Granted) (w : Waiter S F) → request_at old granted.id ≡ Some w → Grants old new g.opens g'.opens before after worker file granted → g'.leaving ≡ with_leaving (permit_by file granted) (key_of worker granted.id) g.leaving → Stand worker old g → Keeps worker new.requests g g'
  granted_keeps worker old new g g' before after file granted w at grants leaving stand =
      let id = granted.id in
      let gives = grants.grants w at in
      let w' = with_permit w in
      let opens = opens_after_end g.opens w' granted.ended in
      let account = account_in g.opens (file_of w.request) in
      let fits = stand.all.fits id w at in
      let gate = fits.lines file (holder_stands (open_at g.opens file) (key_of worker id) grants.holder) in
      let now : Fits g (key_of worker id) w' = record { holds = λ other has is. ap (holder_at g.opens) (same_some (gate_of w.request) other file is gate) ∙ grants.holder; lines = fits.lines; stays = fits.stays } in
      let there = (one_changed old.requests id.0 w w' at).is_at in
      let permits = written_fits g worker old.requests id (Pending w') (asking_last old.requests id.0 w at) (λ v same. subst (Fits g (key_of worker id)) (cc) now) stand.all in
      let all = granted_fits g worker (permitted old id w) id w' granted.ended account (asking_last (permitted old id w).requests id.0 w' there) permits in
      let lines = end_lines g w' granted.ended in
      let kept = by_lines worker (queued_or_ended (permitted old id w) id w' granted.ended account).requests g (with_lines g opens) lines stand.hold all in
      let said = said_keeps worker _ g (with_lines g opens) (permit_by file granted) id (λ other is. let same = permit_is granted.ended file other is in (lines.holder other ∙ ap (holder_at g.opens) (sym same) ∙ grants.holder, granted_over (permitted old id w) id w' granted.ended account file there (is ∙ ap Some (sym same)))) kept in
      subst (λ (h : Gates). Keeps worker new.requests g h) (sym (same_gates g' opens _ gives.opens_after leaving)) (subst (λ (m : Driving S F). Keeps worker m.requests g (record { opens = opens; leaving = with_leaving (permit_by file granted) (key_of worker id) g.leaving })) (sym gives.driver) said)

  reaped_over : (d : Driving S F) (id : WaiterId) (w : Waiter S F) (how : Option Ended) (account : Option Account) (file : ℕ) → request_at d id ≡ Some w → permit_after w how ≡ Some file → (request_at (queued_or_ended d id w how account) id ≡ None) × (gate_of w.request ≡ Some file)
  reaped_over = grind (arith, over)

  reaped_keeps : (worker : ℕ) (first second new : Driving S F) (g g' : Gates) (before after : Deferred S F) (id : WaiterId) (w : Waiter S F) (given : OpResult) (told : Option Reaped) → new.requests ≡ second.requests → request_at first id ≡ Some w → w.in_flight ≡ true → Reaps first second g.opens g'.opens before after id w given told → g'.leaving ≡ leaving_by worker told g.leaving → Stand worker first g → Keeps worker new.requests g g'
  reaped_keeps worker first second new g g' before after id w given told end at flies reaps leaving stand =
      let w' : Waiter S F = record w { in_flight = false; request = reaps.request } in
      let permit = permit_after w' reaps.answer in
      let account = open_after w given (account_in g.opens (file_of w.request)) in
      let g1 = with_lines g (with_named g.opens (file_of w.request) (keeping account)) in
      let opens = opens_after_end g1.opens w' reaps.answer in
      let lines = reaped_lines g (file_of w.request) account w' reaps.answer in
      let gate = gate_kept w.request reaps.request reaps.kept in
      let there = (one_changed first.requests id.0 w w' at).is_at in
      let d = landed_at (taken_out first) id w' in
      let all = granted_fits g worker d id w' reaps.answer account (asking_last d.requests id.0 w' there) (becomes g worker first.requests id w w' at gate (λ has. has) stand.all) in
      let kept = by_lines worker (queued_or_ended d id w' reaps.answer account).requests g (with_lines g opens) lines stand.hold all in
      let said =
      said_keeps worker _ g (with_lines g opens) permit id
      (λ file is.
      let gone = reaped_over d id w' reaps.answer account file there is in
      let own : gate_of w.request ≡ Some file = sym gate ∙ gone.1 in
      (lines.holder file ∙ (stand.all.fits id w at).holds file (stand.permitted.flies id w file at flies own) own, gone.0))
      kept in
      let moved : new.requests ≡ (queued_or_ended d id w' reaps.answer account).requests = end ∙ ap (λ (m : Driving S F). m.requests) reaps.driver in
      let leaves = leaving ∙ ap (λ (r : Option Reaped). leaving_by worker r g.leaving) reaps.told_is in
      subst (λ (h : Gates). Keeps worker new.requests g h) (sym (same_gates g' opens _ reaps.opens_after leaves)) (subst (λ (s : Slab (Entry S F)). Keeps worker s g (record { opens = opens; leaving = with_leaving permit (key_of worker id) g.leaving })) (sym moved) said)

  reap_keeps : (worker : ℕ) (old new : Driving S F) (g g' : Gates) (before after : Deferred S F) (told : Option Reaped) → ReapsNext old new g.opens g'.opens before after told → g'.leaving ≡ leaving_by worker told g.leaving → Stand worker old g → Keeps worker new.requests g g'
  reap_keeps worker old new g g' before after told reap leaving stand =
      elim (reap_tells old new g.opens g'.opens before after told reap) [
        | inl none ↦
            let gates = same_gates g' g.opens g.leaving none.same (leaving ∙ ap (λ (r : Option Reaped). leaving_by worker r g.leaving) none.told_none) in
            subst (λ (s : Slab (Entry S F)). Keeps worker s g g') (sym none.requests) (by_lines worker old.requests g g' (unmoved g g' gates) stand.hold stand.all)
        | inr there ↦
            let standing : Stand worker there.first g =
            record {
              all = subst (AllFit g worker) (sym there.start) stand.all;
              hold = stand.hold;
              permitted = record { flies = λ id w file at. stand.permitted.flies id w file (ap (λ (s : Slab (Entry S F)). waiter_at s id.0) (sym there.start) ∙ at) };
            } in
            reaped_keeps worker there.first there.second new g g' before after there.id there.w there.given told there.end there.at there.flies there.reaps leaving standing
      ]

  call_keeps : (worker : ℕ) (old new : Driving S F) (g g' : Gates) → Stand worker old g → Call worker old new g g' → Keeps worker new.requests g g'
  call_keeps worker old new g g' stand (Admit id request observer now next within never admits leaving) = admitted_keeps worker old new g g' id request observer now next never admits leaving stand
  call_keeps worker old new g g' stand (Join id fits same is) =
      subst (λ (h : Gates). Keeps worker new.requests g h) (sym is) (subst (λ (m : Driving S F). Keeps worker m.requests g (with_lines g (with_named g.opens (gate_in (request_at old id)) (joined (key_of worker id))))) (sym same) (joined_keeps worker old g id (gate_in (request_at old id)) fits refl stand))
  call_keeps worker old new g g' stand (Grant before after file granted w at grants leaving) = granted_keeps worker old new g g' before after file granted w at grants leaving stand
  call_keeps worker old new g g' stand (Stage id w account first at stages same) =
      subst (λ (m : Driving S F). Keeps worker m.requests g g') (sym stages.driver) (by_lines worker _ g g' (unmoved g g' same) stand.hold (becomes g worker old.requests id w _ at (gate_kept w.request stages.request stages.kept) (λ has. has) stand.all))
  call_keeps worker old new g g' stand (Land id w given store store' at may lands same) = grind (arith, becomes, gate_moved, by_lines, unmoved)
  call_keeps worker old new g g' stand (Reap before after told reap leaving) = reap_keeps worker old new g g' before after told reap leaving stand
  call_keeps worker old new g g' stand (SetAccount file account same is) =
      subst (λ (m : Driving S F). Keeps worker m.requests g g') (sym same) (by_lines worker old.requests g g' (set_account_lines g g' file account is) stand.hold stand.all)
  call_keeps worker old new g g' stand (Recount file change keeps same is) =
      subst (λ (m : Driving S F). Keeps worker m.requests g g') (sym same) (by_lines worker old.requests g g' (recounted_lines g g' file change keeps is) stand.hold stand.all)
  call_keeps worker old new g g' stand (Leave id file leaves same is) =
      subst (λ (h : Gates). Keeps worker new.requests g h) (sym is) (subst (λ (m : Driving S F). Keeps worker m.requests g (passed_on g file)) (sym same) (left_keeps worker old g (key_of worker id) file leaves stand))
  call_keeps worker old new g g' stand (Other is keeps lawful places same) =
      subst (λ (s : Slab (Entry S F)). Keeps worker s g g') (sym is) (by_lines worker _ g g' (unmoved g g' same) stand.hold (room_fits g worker old.requests new.requests.room stand.all))
  call_keeps worker old new g g' stand other =
      by_lines worker new.requests g g' (unmoved g g' (gates_same other refl)) stand.hold (mild old (λ w w' rests. rests) worker None (lets_out other) (AllFit g worker) (passes g old worker None (lets_out other)) new g g' other refl refl stand.all).1

  -- ALL DRIVERS

  pub none_there : (o : Option (Waiter S F)) → ((w : Waiter S F) → o ≡ Some w → ⊥) → o ≡ None
  none_there None never = refl
  none_there (Some w) never = absurd (never w refl)

  pub line_up_kept : (drivers drivers' : ℕ → Driving S F) (g g' : Gates) → CallsOne drivers drivers' g g' → LineUp drivers g → LineUp drivers' g'
  line_up_kept drivers drivers' g g' calls up =
      record {
        share = record { holds = λ key w file at. ((now key.worker).fits key.id w at).holds file; flies = λ key w file at. by_worker key (eqb_tells key.worker calls.worker) w file at };
        lines = λ key w file at. ((now key.worker).fits key.id w at).lines file;
        given = λ key file. (now key.worker).given key.id file;
        holds = keeps.hold;
        over = λ key file leaves. none_there _ (λ w at. ((now key.worker).fits key.id w at).stays file leaves);
      }
    where
      before : (worker : ℕ) → AllFit g worker (drivers worker).requests
      before worker =
          record {
            fits = λ id w at.
                record {
                  holds = λ file. up.share.holds (key_of worker id) w file at;
                  lines = λ file. up.lines (key_of worker id) w file at;
                  stays = λ file leaves. let none : None ≡ Some w = sym (up.over (key_of worker id) file leaves) ∙ at in cc;
                };
            given = λ id file. up.given (key_of worker id) file;
          }

      keeps : Keeps calls.worker (drivers' calls.worker).requests g g'
      keeps = call_keeps calls.worker _ _ g g' (record { all = before calls.worker; hold = up.holds; permitted = record { flies = λ id w file. up.share.flies (key_of calls.worker id) w file } }) calls.call

      now : (worker : ℕ) → AllFit g' worker (drivers' worker).requests
      now worker =
          elim (eqb_tells worker calls.worker) [
            | inl same ↦ subst (λ (n : ℕ). AllFit g' n (drivers' n).requests) (sym same.1) keeps.mine
            | inr apart ↦ subst (λ (d : Driving S F). AllFit g' worker d.requests) (sym (calls.others worker apart.1)) (keeps.theirs worker (drivers worker).requests apart.1 (before worker))
          ]

      by_worker : (key : WaiterKey) → ((eqb key.worker calls.worker ≡ true) × (key.worker ≡ calls.worker)) ⊎ ((eqb key.worker calls.worker ≡ false) × (key.worker ≢ calls.worker)) → (w : Waiter S F) (file : ℕ) → request_at (drivers' key.worker) key.id ≡ Some w → w.in_flight ≡ true → gate_of w.request ≡ Some file → w.permit ≡ true
      by_worker key (inl same) w file at = calls.says.permitted.flies key.id w file (ap (λ (n : ℕ). request_at (drivers' n) key.id) (sym same.1) ∙ at)
      by_worker key (inr apart) w file at = up.share.flies key w file (ap (λ (d : Driving S F). request_at d key.id) (sym (calls.others key.worker apart.1)) ∙ at)

  -- a driver without requests has none by any name
  pub line_up_first : (drivers : ℕ → Driving S F) (g : Gates) → AreFresh drivers g → LineUp drivers g
  line_up_first = grind (arith, nobody_stands, over, request_at, none_past, reads)

  pub line_up_always : (drivers : ℕ → ℕ → Driving S F) (gates : ℕ → Gates) → IsRun drivers gates → (n : ℕ) → LineUp (drivers n) (gates n)
  line_up_always drivers gates run zero = line_up_first (drivers 0) (gates 0) run.first
  line_up_always drivers gates run (suc n) = line_up_kept (drivers n) (drivers (suc n)) (gates n) (gates (suc n)) (run.next n) (line_up_always drivers gates run n)

  pub one_always : (drivers : ℕ → ℕ → Driving S F) (gates : ℕ → Gates) → IsRun drivers gates → (n : ℕ) (a b : WaiterKey) (file : ℕ) → IsDurableFlight (drivers n a.worker) a.id file → IsDurableFlight (drivers n b.worker) b.id file → a ≡ b
  one_always drivers gates run n a b file one other = at_most_one (drivers n) (gates n).opens a b file (line_up_always drivers gates run n).share one other
