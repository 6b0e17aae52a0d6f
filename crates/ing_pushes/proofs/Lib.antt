mod Entries
mod Members
mod OneByOne
mod Read
mod Rising
