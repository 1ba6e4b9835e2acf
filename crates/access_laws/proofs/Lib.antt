-- internal
mod Granted
mod Owners
mod NewPods
mod Words
