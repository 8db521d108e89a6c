mod OneLog
mod OneThing
mod Tellings
